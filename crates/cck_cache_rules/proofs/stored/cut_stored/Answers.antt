use Rattle.std.proofs.Common.{◌≡◌, length, ◌++◌, Some, None, append_assoc, length-append, arith, sym, ◌∙◌, ap}
use Rattle.std.proofs.lemmas.List.{append_cancel_left}
use Rattle.std.proofs.lemmas.Slice.Eq.{strip_prefix_is}
use Rattle.std.proofs.lemmas.Bool.Decides.{Decides-eqb}
use Rattle.cck_cache_rules.proofs.stored.cut_stored.Goals as goal

pub returns-in_err-rest : goal.returns-in_err-rest
returns-in_err-rest c =
    let other = strip_prefix_is Decides-eqb c.args.bytes.now c.args.kind.now None c.in_err-rest.ensures.cases in
    rw c.from_residual.ensures (λ sums rest sized is. other (sums ++ rest) (is ∙ append_assoc c.args.kind.now sums rest))

pub returns-then-rest-lt-CHECKSUM_LENGTH : goal.returns-then-rest-lt-CHECKSUM_LENGTH
returns-then-rest-lt-CHECKSUM_LENGTH c sums rest sized is =
    let begins = strip_prefix_is Decides-eqb c.args.bytes.now c.args.kind.now (Some c.in_ok-rest.rest) c.in_ok-rest.ensures.cases in
    let same : sums ++ rest ≡ c.in_ok-rest.rest.now = append_cancel_left c.args.kind.now _ _ (sym (append_assoc c.args.kind.now sums rest) ∙ (sym is ∙ begins)) in
    omega (arith, ap length same, length-append sums rest)

pub returns : goal.returns
returns c =
    let begins = strip_prefix_is Decides-eqb c.args.bytes.now c.args.kind.now (Some c.in_ok-rest.rest) c.in_ok-rest.ensures.cases in
    let sums = c.split_at.result.0.now in
    let rest = c.split_at.result.1.now in
    (c.split_at.ensures.front_len, begins ∙ (ap (λ r. c.args.kind.now ++ r) c.split_at.ensures.by_index.0 ∙ sym (append_assoc c.args.kind.now sums rest)))
