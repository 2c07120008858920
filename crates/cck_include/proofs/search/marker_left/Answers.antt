use Rattle.std.proofs.Common.{◌≡◌, ◌+◌, ◌-◌, ◌∙◌, ◌==◌, ℕ, List, true, false, length, take, drop, get_or, Some, ap, arith, sym, subst}
use Rattle.std.proofs.lemmas.Bool.{eqb-true, false≢true}
use Rattle.std.proofs.lemmas.List.{get_or-drop, length-drop}
use Rattle.memchr.specs.Find.{IsFirstByte, Nowhere, Passes, is_byte}
use Rattle.cck_include.specs.Marks.{is_marker}
use Rattle.cck_include.specs.Searches.{EndsBeforeMarker}
use Rattle.cck_include.proofs.Cuts.{slice_from}
use Rattle.cck_include.proofs.SkipLemmas.{is_absent, no_end_after, no_end_before}
use Rattle.cck_include.proofs.search.marker_left.Goals.{else-text-place-eq10-via-then-text-place-eq10+else-is_marker, else-text-place-eq10-via-else-text-place-eq10}
use Rattle.cck_include.proofs.search.marker_left.Goals as goal

length_of : (text : List ℕ) (size : ℕ) → length (take (length text - size) (drop size text)) ≡ length text - size
length_of text size = ap length (slice_from text size) ∙ length-drop size text

byte_found : (byte : ℕ) (text : List ℕ) (size passed : ℕ) → (get_or (take (length text - size) (drop size text)) passed 0 == byte) ≡ true → get_or text (size + passed) 0 ≡ byte
byte_found byte text size passed found =
    sym (get_or-drop size text passed 0) ∙ subst (λ (rest : List ℕ). get_or rest passed 0 ≡ byte) (slice_from text size) (eqb-true (get_or (take (length text - size) (drop size text)) passed 0) byte found)

-- no marker follows a line's end before the next `#`
up_to_hash : (text : List ℕ) (from passed : ℕ) → Nowhere (EndsBeforeMarker text) 0 from → Nowhere (Passes (is_byte 35) (take (length text - (from + 1)) (drop (from + 1) text))) 0 passed
    → Nowhere (EndsBeforeMarker text) 0 (from + passed)
up_to_hash text from passed before absent = no_end_before text from (from + passed) before (λ k low inside high. is_absent 35 text (from + 1) passed absent k low (omega (arith, high)))

-- nor up to the end of its line
up_to_end : (text : List ℕ) (from passed rest : ℕ) → Nowhere (EndsBeforeMarker text) 0 from → IsFirstByte (is_byte 35) (take (length text - (from + 1)) (drop (from + 1) text)) (Some passed)
    → (EndsBeforeMarker text (from + passed) → ⊥) → Nowhere (Passes (is_byte 10) (take (length text - (from + passed + 2)) (drop (from + passed + 2) text))) 0 rest
    → Nowhere (EndsBeforeMarker text) 0 (from + passed + 2 + rest)
up_to_end text from passed rest before found not_here absent =
    let hash : get_or text (from + passed + 1) 0 ≡ 35 = ap (λ (k : ℕ). get_or text k 0) (omega arith) ∙ byte_found 35 text (from + 1) passed found.1 in
    no_end_after text (from + passed) (from + passed + 2 + rest) (up_to_hash text from passed before found.0.before) not_here hash (is_absent 10 text (from + passed + 2) rest absent)

unmarked_here : (text : List ℕ) (place : ℕ) → is_marker (take (length text - (place + 1)) (drop (place + 1) text)) ≡ false → EndsBeforeMarker text place → ⊥
unmarked_here text place unmarked ends = false≢true (sym (subst (λ (rest : List ℕ). is_marker rest ≡ false) (slice_from text (place + 1)) unmarked) ∙ ends.1)

pub returns-in_default-clause-nowhere : goal.returns-in_default-clause-nowhere
returns-in_default-clause-nowhere c = λ place low high.
    let text = c.args.text.now in
    let from = c.loop-from.from in
    no_end_before text from (length text) c.loop-from.invariant.nowhere
    (λ k above inside below. is_absent 35 text (from + 1) _ c.in_default.ensures k above (omega (arith, inside, above, length_of text (from + 1)))) place low (omega (arith, high))

pub returns-then-is_marker-clause-nowhere : goal.returns-then-is_marker-clause-nowhere
returns-then-is_marker-clause-nowhere c = λ place low high.
    let text = c.args.text.now in
    let from = c.loop-from.from in
    let found = c.in-Some.ensures in
    up_to_hash text from c.in-Some.passed c.loop-from.invariant.nowhere found.0.before place low (omega (arith, high, found.0.high, length_of text (from + 1)))

pub returns-in_default-first_byte-clause-nowhere : goal.returns-in_default-first_byte-clause-nowhere
returns-in_default-first_byte-clause-nowhere c = λ place low high.
    let text = c.args.text.now in
    let from = c.loop-from.from in
    let passed = c.in-Some.passed in
    let not_here : EndsBeforeMarker text (from + passed) → ⊥ =
    elim c.else-text-place-eq10.branch [
      | else-text-place-eq10-via-then-text-place-eq10+else-is_marker w ↦ unmarked_here text (from + passed) (sym w.is_marker.ensures ∙ w.if-is_marker.false)
      | else-text-place-eq10-via-else-text-place-eq10 w ↦ λ ends. w.if-text-place-eq10.false ends.0
    ] in
    up_to_end text from passed _ c.loop-from.invariant.nowhere c.in-Some.ensures not_here c.in_default-first_byte.ensures place low (omega (arith, high, length_of text (from + passed + 2)))

pub loop-from-preserved : goal.loop-from-preserved
loop-from-preserved c =
    let text = c.args.text.now in
    let from = c.loop-from.from in
    let passed = c.in-Some.passed in
    let not_here : EndsBeforeMarker text (from + passed) → ⊥ =
    elim c.else-text-place-eq10.branch [
      | else-text-place-eq10-via-then-text-place-eq10+else-is_marker w ↦ unmarked_here text (from + passed) (sym w.is_marker.ensures ∙ w.if-is_marker.false)
      | else-text-place-eq10-via-else-text-place-eq10 w ↦ λ ends. w.if-text-place-eq10.false ends.0
    ] in
    let found = c.in-Some-first_byte.ensures in
    record {
      within = omega (arith, found.0.high, length_of text (from + passed + 2));
      nowhere = up_to_end text from passed _ c.loop-from.invariant.nowhere c.in-Some.ensures not_here found.0.before;
    }
