use Rattle.std.proofs.Common.{◌≡◌, ◌∙◌, ◌+◌, ◌-◌, ℕ, List, true, false, nat_eq, ap, drop, length, sym, arith, subst}
use Rattle.std.specs.List.{starts_with}
use Rattle.std.specs.BTreeSet.{BTreeSet}
use Rattle.std.specs.Global.{Vec}
use Rattle.std.proofs.lemmas.Bool.Decides.{Decides-eqb}
use Rattle.std.proofs.lemmas.List.{length-drop, take_all}
use Rattle.std.proofs.lemmas.Slice.Eq.{starts_is}
use Rattle.cck_cache_text.specs.Sets.{Adds}
use Rattle.cck_cache_text.proofs.IncludedLemmas.{ClosedAt, closed_all, closed_here}
use Rattle.cck_cache_text.proofs.SetLemmas.{Below, adds_more, adds_none_below, adds_nothing}
use Rattle.cck_cache_text.proofs.included.add_closed.Goals as goal
use Rattle.cck_cache_text.proofs.included.add_closed.Goals.{then-starts_with+in_ok-to_vec+in_ok-add, else-starts_with}

true_false : true ≡ false → ⊥
true_false e = cc

pub loop-place-init : goal.loop-place-init
loop-place-init c = adds_none_below (ClosedAt c.args.close.now c.args.text.now) c.args.names.now

pub loop-place-preserved : goal.loop-place-preserved
loop-place-preserved c =
    let text = c.args.text.now in
    let close = c.args.close.now in
    let place = c.loop-place.place in
    let rest = drop place text in
    let whole = take_all (length text - place) rest (omega (arith, length-drop place text)) in
    let begins = starts_is Decides-eqb rest close c.starts_with.result (c.starts_with.ensures.value ∙ ap (λ (t : List ℕ). starts_with nat_eq t close) whole) in
    let P : BTreeSet (Vec ℕ) → Type 0 = λ names. Adds (Below (ClosedAt close text) (place + 1)) c.args.names.now names in
    elim c.if-starts_with.branch [
      | then-starts_with+in_ok-to_vec+in_ok-add w ↦ subst P (sym w.names-is)
          (adds_more (ClosedAt close text) place c.args.names.now c.loop-place.names w.add.new.paths c.loop-place.invariant
          (closed_here close text place c.loop-place.names w.add.new.paths w.in_ok-to_vec.field-0.items _ (begins.0 w.if-starts_with.true)
          (w.in_ok-to_vec.ensures.items_if_clones_equal (λ x y e. e)) w.in_ok-add.ensures))
      | else-starts_with w ↦ subst P (sym w.names-is)
          (adds_more (ClosedAt close text) place c.args.names.now c.loop-place.names c.loop-place.names c.loop-place.invariant
          (adds_nothing (ClosedAt close text place) c.loop-place.names (λ q at. true_false (sym (begins.1 at.0.0 at.0.1) ∙ w.if-starts_with.false))))
    ]

pub returns : goal.returns
returns c = closed_all c.args.close.now c.args.text.now c.loop-place.place c.args.names.now c.loop-place.names (omega (arith, c.loop-place-test.false, c.loop-place.auto.place-end)) c.loop-place.invariant
