use Rattle.std.proofs.Common.{◌∙◌, ◌++◌, ap, length, sym, arith}
use Rattle.std.proofs.lemmas.Bool.{eqb-true}
use Rattle.std.proofs.lemmas.List.{nil_from_length}
use Rattle.std.proofs.lemmas.List.Concat.{flat_map-cons}
use Rattle.cck_path.specs.Blocks.{entries_of}
use Rattle.cck_path.proofs.entries.take_first.Goals as goal

pub loop-left-preserved : goal.loop-left-preserved
loop-left-preserved g c =
    c.loop-left.invariant
    ∙ (ap (λ l. l ++ entries_of c.loop-left.others.now) (nil_from_length c.loop-left.left.now (eqb-true (length c.loop-left.left.now) 0 (sym c.loop-left-test.ensures)))
    ∙ (ap entries_of c.in_ok-next.ensures.cases.0
    ∙ (flat_map-cons (λ b. b.items) c.in_ok-next.next.now c.in_ok-next.rest.now ∙ ap (λ l. l ++ entries_of c.in_ok-next.rest.now) (sym c.deref-left.ensures.value))))

pub loop-left-smaller : goal.loop-left-smaller
loop-left-smaller g c = omega (arith, ap length c.in_ok-next.ensures.cases.0)

pub returns : goal.returns
returns g c = c.loop-left.invariant ∙ ap (λ l. l ++ entries_of c.loop-left.others.now) c.in_ok-first.ensures.cases.0
