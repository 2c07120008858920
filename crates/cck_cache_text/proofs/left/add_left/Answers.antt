use Rattle.std.proofs.Common.{◌+◌, ℕ, sym, arith, subst}
use Rattle.std.specs.BTreeSet.{BTreeSet}
use Rattle.std.specs.Global.{Vec}
use Rattle.cck_cache_text.specs.Sets.{Adds}
use Rattle.cck_cache_text.proofs.LeftLemmas.{LeftAt, left_here, whole_way}
use Rattle.cck_cache_text.proofs.SetLemmas.{Below, adds_more, adds_none_below, adds_nothing}
use Rattle.cck_cache_text.proofs.left.add_left.Goals as goal
use Rattle.cck_cache_text.proofs.left.add_left.Goals.{then-is_left_at+in_ok-to_vec+in_ok-add, else-is_left_at}

pub loop-place-init : goal.loop-place-init
loop-place-init c = adds_none_below (LeftAt c.args.path.now) c.args.left.now

pub loop-place-preserved : goal.loop-place-preserved
loop-place-preserved c =
    let path = c.args.path.now in
    let place = c.loop-place.place in
    let P : BTreeSet (Vec ℕ) → Type 0 = λ left. Adds (Below (LeftAt path) (place + 1)) c.args.left.now left in
    elim c.if-is_left_at.branch [
      | then-is_left_at+in_ok-to_vec+in_ok-add w ↦ subst P (sym w.left-is)
          (adds_more (LeftAt path) place c.args.left.now c.loop-place.left w.add.new.paths c.loop-place.invariant
          (left_here path place c.loop-place.left w.add.new.paths w.in_ok-to_vec.field-0.items (rw w.if-is_left_at.true at c.is_left_at.ensures)
          (w.in_ok-to_vec.ensures.items_if_clones_equal (λ x y e. e)) w.in_ok-add.ensures))
      | else-is_left_at w ↦ subst P (sym w.left-is)
          (adds_more (LeftAt path) place c.args.left.now c.loop-place.left c.loop-place.left c.loop-place.invariant
          (adds_nothing (LeftAt path place) c.loop-place.left (λ q at. (rw w.if-is_left_at.false at c.is_left_at.ensures) at.0)))
    ]

pub returns : goal.returns
returns c = whole_way c.args.path.now c.loop-place.place c.args.left.now c.loop-place.left (omega (arith, c.loop-place-test.false, c.loop-place.auto.place-end)) c.loop-place.invariant
