use Rattle.std.proofs.Common.{◌≡◌, ℕ, map, length, subst, arith}
use Rattle.std.proofs.lemmas.List.{length-map}
use Rattle.cck_cache_text.specs.Included.{IsGivenAt}
use Rattle.cck_cache_text.specs.Sets.{Adds}
use Rattle.cck_cache_text.proofs.IncludedLemmas.{given_at}
use Rattle.cck_cache_text.proofs.SetLemmas.{Below, adds_more, adds_none_below}
use Rattle.cck_cache_text.proofs.included.add_given.Goals as goal

pub loop-place-init : goal.loop-place-init
loop-place-init c = adds_none_below (IsGivenAt (map (λ a. a.items) c.args.arguments.now)) c.args.names.now

pub loop-place-preserved : goal.loop-place-preserved
loop-place-preserved c =
    let arguments = map (λ a. a.items) c.args.arguments.now in
    adds_more (IsGivenAt arguments) c.loop-place.place c.args.names.now c.loop-place.names c.add_given_to-in-loop-place.new.names c.loop-place.invariant
    (given_at arguments c.loop-place.place c.loop-place.names c.add_given_to.new.names c.add_given_to-in-loop-place.new.names c.in_ok-add_given_to.ensures c.in_ok-add_given_to-2.ensures)

pub returns : goal.returns
returns c =
    let arguments = map (λ a. a.items) c.args.arguments.now in
    let end : c.loop-place.place ≡ length arguments = omega (arith, length-map c.args.arguments.now (λ a. a.items)) in
    subst (λ (n : ℕ). Adds (Below (IsGivenAt arguments) n) c.args.names.now c.loop-place.names) end c.loop-place.invariant
