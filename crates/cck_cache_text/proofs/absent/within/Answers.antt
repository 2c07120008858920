use Rattle.std.proofs.Common.{◌≡◌, ◌≢◌, ℕ, List, ◌++◌, Some, None, sym}
use Rattle.std.specs.Option.{MatchOption}
use Rattle.std.proofs.lemmas.Slice.Eq.{strip_prefix_is}
use Rattle.std.proofs.lemmas.Bool.Decides.{Decides-eqb}
use Rattle.cck_cache_text.specs.Absent.{separator}
use Rattle.cck_cache_text.proofs.AbsentLemmas.{within_read}
use Rattle.cck_cache_text.proofs.absent.within.Goals as goal

pub returns-in_err-strip_prefix : goal.returns-in_err-strip_prefix
returns-in_err-strip_prefix c =
    let other = strip_prefix_is Decides-eqb c.args.name.now c.args.directory.now None c.in_err-strip_prefix.ensures.cases in
    rw c.from_residual.ensures (λ rest same. other (separator c.args.directory.now ++ rest) (sym same))

pub returns : goal.returns
returns c =
    let middle = c.in_ok-strip_prefix.field-0.now in
    let between = separator c.args.directory.now in
    let begins = strip_prefix_is Decides-eqb c.args.name.now c.args.directory.now (Some c.in_ok-strip_prefix.field-0) c.in_ok-strip_prefix.ensures.cases in
    let parted = strip_prefix_is Decides-eqb middle c.separator.result.now c.strip_prefix-2.result c.strip_prefix-2.ensures.cases in
    let separated : MatchOption c.strip_prefix-2.result ((rest : List ℕ) → middle ≢ between ++ rest) (λ x. middle ≡ between ++ x.now) = rw c.separator.ensures at parted in
    within_read c.args.name.now c.args.directory.now between middle c.strip_prefix-2.result begins separated
