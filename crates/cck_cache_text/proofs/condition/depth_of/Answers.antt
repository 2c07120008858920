use Rattle.std.proofs.Common.{◌≡◌, ◌∙◌, ℕ, suc, ◌+◌, ◌-◌, None, Some, List, Bor, get_or, length, ap, sym, arith}
use Rattle.std.specs.Option.{option_map}
use Rattle.cck_cache_text.specs.Condition.{after_piece, depth_after, depth_in}
use Rattle.cck_cache_text.proofs.HeaderTestLemmas.{depth_bound, depth_ended, depth_more, depth_refused, depth_unknown}
use Rattle.cck_cache_text.proofs.condition.depth_of.Goals as goal

pub returns-then-is_empty : goal.returns-then-is_empty
returns-then-is_empty c = sym (depth_ended (length c.args.text.now - c.loop.counter) c.loop.depth c.loop.rest.now (sym c.is_empty.ensures ∙ c.if-is_empty.true)) ∙ c.loop.invariant.depth

pub returns-in_err-depth : goal.returns-in_err-depth
returns-in_err-depth c =
    let rest = c.loop.rest.now in
    let depth = c.loop.depth in
    let refused : depth_after (get_or rest 0 0) depth ≡ None = ap (λ (byte : ℕ). depth_after byte depth) (sym c.first_byte.ensures) ∙ (sym c.depth_after.ensures ∙ c.in_err-depth.was) in
    c.from_residual.ensures ∙ (sym (depth_refused (length c.args.text.now - c.loop.counter) depth rest (sym c.is_empty.ensures ∙ c.if-is_empty.false) refused) ∙ c.loop.invariant.depth)

pub returns-in_err-rest : goal.returns-in_err-rest
returns-in_err-rest c =
    let rest = c.loop.rest.now in
    let depth = c.loop.depth in
    let next = c.in_ok-depth.depth in
    let is : depth_after (get_or rest 0 0) depth ≡ Some next = ap (λ (byte : ℕ). depth_after byte depth) (sym c.first_byte.ensures) ∙ (sym c.depth_after.ensures ∙ c.in_ok-depth.was) in
    let unknown : after_piece rest ≡ None = sym c.after_piece.ensures ∙ ap (option_map (λ (r : Bor (List ℕ)). r.now)) c.in_err-rest.was in
    c.from_residual-in_err-rest.ensures
    ∙ (sym (depth_unknown (length c.args.text.now - c.loop.counter) depth next rest (sym c.is_empty.ensures ∙ c.if-is_empty.false) is unknown) ∙ c.loop.invariant.depth)

pub loop-preserved : goal.loop-preserved
loop-preserved c =
    let text = c.args.text.now in
    let rest = c.loop.rest.now in
    let depth = c.loop.depth in
    let next = c.in_ok-depth.depth in
    let after = c.in_ok-rest.rest.now in
    let left = length text - (c.loop.counter + 1) in
    let one_more : suc left ≡ length text - c.loop.counter = omega (arith, c.loop-test.true) in
    let is : depth_after (get_or rest 0 0) depth ≡ Some next = ap (λ (byte : ℕ). depth_after byte depth) (sym c.first_byte.ensures) ∙ (sym c.depth_after.ensures ∙ c.in_ok-depth.was) in
    let first : after_piece rest ≡ Some after = sym c.after_piece.ensures ∙ ap (option_map (λ (r : Bor (List ℕ)). r.now)) c.in_ok-rest.was in
    record {
      bound = omega (arith, c.loop.invariant.bound, depth_bound (get_or rest 0 0) depth next is);
      depth = sym (depth_more left depth next rest after (sym c.is_empty.ensures ∙ c.if-is_empty.false) is first) ∙ (ap (λ (n : ℕ). depth_in n depth rest) one_more ∙ c.loop.invariant.depth);
    }
