use Rattle.std.proofs.Common.{◌∙◌, ap, sym, arith}
use Rattle.std.proofs.lemmas.Nat.Bits.{bit_at-zero}
use Rattle.std.specs.Int.{bit_at}
use Rattle.cck_strip.proofs.MarkLemmas.{passed_all, passed_marks, passed_place}
use Rattle.cck_strip.proofs.text.WordSearchSearchTextSites.next_place.Goals as goal

pub loop-at-preserved-then-marks-eq0 : goal.loop-at-preserved-then-marks-eq0
loop-at-preserved-then-marks-eq0 c =
    let room = c.loop-at-test.true in
    let now = c.loop-at.invariant in
    let low = now.from_on in
    let high = now.within in
    record {
      from_on = omega arith;
      within = omega arith;
      passed = passed_marks _ _ _ _ _ _ 64 c.requires.finds.1 c.word_marks-marks.ensures (omega arith)
          (λ k h. ap (λ m. bit_at m k) c.if-marks-eq0.true ∙ bit_at-zero k) now.passed;
    }

pub returns-then-is_boundary : goal.returns-then-is_boundary
returns-then-is_boundary c =
    let room = c.loop-at-test.true in
    let bound = c.lowest.ensures.bound in
    let now = c.loop-at.invariant in
    let low = now.from_on in
    let high = now.within in
    record {
      from_on = omega arith;
      within = omega arith;
      none_before = passed_marks _ _ _ _ _ _ _ c.requires.finds.1 c.word_marks-marks.ensures (omega arith) c.lowest.ensures.below now.passed;
    }

pub loop-at-preserved : goal.loop-at-preserved
loop-at-preserved c =
    let room = c.loop-at-test.true in
    let bound = c.lowest.ensures.bound in
    let now = c.loop-at.invariant in
    let low = now.from_on in
    let high = now.within in
    record {
      from_on = omega arith;
      within = omega arith;
      passed = passed_place _ _ _ _ (sym c.is_boundary.ensures ∙ c.if-is_boundary.false)
          (passed_marks _ _ _ _ _ _ _ c.requires.finds.1 c.word_marks-marks.ensures (omega arith) c.lowest.ensures.below now.passed);
    }

pub returns : goal.returns
returns c = passed_all _ _ _ _ (let end = c.if-at-text.false in omega arith) c.loop-at.invariant.passed

pub returns-then-at-text : goal.returns-then-at-text
returns-then-at-text c =
    let now = c.loop-at.invariant in
    record { from_on = now.from_on; within = c.if-at-text.true; none_before = now.passed }
