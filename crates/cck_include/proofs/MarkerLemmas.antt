-- the first bytes of a marker
use Rattle.std.proofs.Common.{◌≡◌, ◌≢◌, ℕ, ◌<◌, ◌⊎◌, inl, inr, true, false, ◌&&◌, nat_eq, List, [], ◌∷◌, length, drop, get_or, refl, ap, arith}
use Rattle.std.specs.Prelude.{codes}
use Rattle.std.specs.List.{starts_with}
use Rattle.std.proofs.Math.Bool.{or-false}
use Rattle.std.proofs.lemmas.Bool.{and_parts, false_from_ne_true}
use Rattle.cck_include.specs.Marks.{is_digit, is_marker}
use Rattle.cck_include.proofs.EachText.{after_word, any_true, marker_starts}

-- three bytes and what is after them
pub begins : (text : List ℕ) (second : ℕ) → 2 < length text → get_or text 0 0 ≡ 35 → get_or text 1 0 ≡ second → text ≡ 35 ∷ second ∷ get_or text 2 0 ∷ drop 3 text
begins [] second long f g = absurd (omega arith)
begins (a ∷ []) second long f g = absurd (omega arith)
begins (a ∷ b ∷ []) second long f g = absurd (omega arith)
begins (a ∷ b ∷ c ∷ text) second long f g = cc

-- after `#` and a space a digit decides, and after `#` and `p` or `l` a word
pub after_space : (third : ℕ) (rest : List ℕ) → is_marker (35 ∷ 32 ∷ third ∷ rest) ≡ is_digit third
unfolding is_marker
after_space third rest = simp or-false

pub after_p : (rest : List ℕ) → is_marker (35 ∷ 112 ∷ rest) ≡ starts_with nat_eq (35 ∷ 112 ∷ rest) (codes "#pragma GCC pch_preprocess")
unfolding is_marker
after_p rest = simp or-false

pub after_l : (rest : List ℕ) → is_marker (35 ∷ 108 ∷ rest) ≡ starts_with nat_eq (35 ∷ 108 ∷ rest) (codes "#line ")
unfolding is_marker
after_l rest = refl

-- no other byte is the second of a marker
pub second_byte : (text : List ℕ) → is_marker text ≡ true → (get_or text 1 0 ≡ 32) ⊎ ((get_or text 1 0 ≡ 112) ⊎ (get_or text 1 0 ≡ 108))
unfolding is_marker
second_byte text h =
    any_true (starts_with nat_eq text (codes "# ") && is_digit (get_or text 2 0)) (starts_with nat_eq text (codes "#pragma GCC pch_preprocess")) (starts_with nat_eq text (codes "#line ")) _ h
    (λ e. inl (ap (λ (t : List ℕ). get_or t 1 0) (after_word text (codes "# ") (and_parts _ _ e).0)))
    (λ e. inr (inl (ap (λ (t : List ℕ). get_or t 1 0) (after_word text (codes "#pragma GCC pch_preprocess") e))))
    (λ e. inr (inr (ap (λ (t : List ℕ). get_or t 1 0) (after_word text (codes "#line ") e))))

pub other_second : (text : List ℕ) → get_or text 1 0 ≢ 32 → get_or text 1 0 ≢ 112 → get_or text 1 0 ≢ 108 → is_marker text ≡ false
other_second text space p l =
    false_from_ne_true _ (λ h.
    elim (second_byte text h) [
      | inl e ↦ space e
      | inr other ↦ (elim other [
        | inl e ↦ p e
        | inr e ↦ l e
      ])
    ])

pub other_first : (text : List ℕ) → get_or text 0 0 ≢ 35 → is_marker text ≡ false
other_first text apart = false_from_ne_true _ (λ h. apart (ap (λ (t : List ℕ). get_or t 0 0) (marker_starts text h).1))

-- fewer than three bytes are no marker
pub too_short : (text : List ℕ) → length text < 3 → is_marker text ≡ false
unfolding is_marker
too_short text short =
    false_from_ne_true _ (λ h.
    any_true (starts_with nat_eq text (codes "# ") && is_digit (get_or text 2 0)) (starts_with nat_eq text (codes "#pragma GCC pch_preprocess")) (starts_with nat_eq text (codes "#line ")) _ h
    (λ e. no_third text short (and_parts _ _ e).1)
    (λ e. omega (arith, ap length (after_word text (codes "#pragma GCC pch_preprocess") e)))
    (λ e. omega (arith, ap length (after_word text (codes "#line ") e))))
  where
    no_third : (text : List ℕ) → length text < 3 → is_digit (get_or text 2 0) ≡ true → ⊥
    no_third [] short digit = cc
    no_third (a ∷ []) short digit = cc
    no_third (a ∷ b ∷ []) short digit = cc
    no_third (a ∷ b ∷ c ∷ text) short digit = omega arith
