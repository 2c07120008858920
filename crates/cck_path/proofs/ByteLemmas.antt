-- The first place of a byte, as `memchr` finds it.
use Rattle.std.proofs.Common.{◌≡◌, ℕ, Bool, true, false, List, Option, Some, None, length, get_or, position, refl, ap, sym, ◌∙◌, arith}
use Rattle.std.proofs.lemmas.Bool.{cond_above, cond_below}
use Rattle.std.proofs.lemmas.List.Sums.{position_or_len_is}
use Rattle.std.specs.List.{position_or_len}
use Rattle.memchr.specs.Find.{IsFirstByte}

fails : (b : Bool) → (b ≡ true → ⊥) → b ≡ false
fails true h = absurd (h refl)
fails false h = refl

-- the first place whose byte passes a test is the position
pub first_is_position : (test : ℕ → Bool) (text : List ℕ) (r : Option ℕ) → IsFirstByte test text r → r ≡ position test text
first_is_position test text None h =
    let place = position_or_len test text in
    let past : place ≡ length text = position_or_len_is test text (length text) 0 (omega arith) (λ k lt. fails (test (get_or text k 0)) (h k (omega arith) lt)) (λ lt. absurd (omega arith)) in
    cond_above place (length text) (Some place) None None (omega arith) refl
first_is_position test text (Some n) h =
    let place = position_or_len test text in
    let here : place ≡ n = position_or_len_is test text n 0 (omega (arith, h.0.high)) (λ k lt. fails (test (get_or text k 0)) (h.0.before k (omega arith) lt)) (λ _. h.1) in
    ap Some (sym here) ∙ cond_below place (length text) (Some place) None (omega (arith, h.0.high))
