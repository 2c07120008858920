use Rattle.std.proofs.Common.{◌∷◌, [], ◌++◌, ◌≡◌, ◌≢◌, List, ℕ, Some, None, sym}
use Rattle.std.proofs.lemmas.Slice.Eq.{strip_prefix_is, strip_suffix_is}
use Rattle.std.proofs.lemmas.Bool.Decides.{Decides-eqb}
use Rattle.std.specs.Option.{MatchOption}
use Rattle.cck_cache_text.proofs.SearchLemmas.{quoted_read}
use Rattle.cck_cache_text.proofs.search_list.quoted_after.Goals as goal

pub returns-in_err-strip_prefix : goal.returns-in_err-strip_prefix
returns-in_err-strip_prefix c =
    let none = strip_prefix_is Decides-eqb c.args.line.now c.args.front.now None c.in_err-strip_prefix.ensures.cases in
    rw c.from_residual.ensures (λ d same. none (d ++ 34 ∷ []) (sym same))

pub returns : goal.returns
returns c =
    let rest = c.in_ok-strip_prefix.field-0.now in
    let begins = strip_prefix_is Decides-eqb c.args.line.now c.args.front.now (Some c.in_ok-strip_prefix.field-0) c.in_ok-strip_prefix.ensures.cases in
    let ends = strip_suffix_is Decides-eqb rest c.as_slice.result.now c.strip_suffix.result c.strip_suffix.ensures.cases in
    let quoted : MatchOption c.strip_suffix.result ((front : List ℕ) → rest ≢ front ++ 34 ∷ []) (λ x. rest ≡ x.now ++ 34 ∷ []) = rw c.as_slice.ensures at ends in
    quoted_read c.args.front.now c.args.line.now rest c.strip_suffix.result begins quoted
