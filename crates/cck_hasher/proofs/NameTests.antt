-- Names that are passed over, by the walk's tests.
use Rattle.std.proofs.Common.{◌≡◌, ◌≢◌, inl, inr, ◌&&◌, ◌==◌, ℕ, ◌+◌, ◌-◌, [], ◌∷◌, ◌++◌, length, take, nat_le, Bool, true, false, refl, sym, ap, subst, ◌∙◌, arith}
use Rattle.std.proofs.Math.Seq.{get_or-append_seam}
use Rattle.std.proofs.lemmas.Bool.{and_from, and_parts, eq-eqb, eqb-true, false≢true, le-leb, or_cases, or_parts}
use Rattle.std.proofs.lemmas.List.{length-append, take_all, take_more}
use Rattle.std.specs.Prelude.{slice_index}
use Rattle.cck_path.specs.Bytes.{Bytes}
use Rattle.cck_hasher.specs.Decided.{is_angled, is_passed}

-- `<` and `>` with nothing or something between
abbrev pub IsAngled : Bytes → Type 0
IsAngled name = (inner : Bytes) × (name ≡ 60 ∷ inner ++ 62 ∷ [])

-- the last byte of a text that ends with it
last_byte : (front : Bytes) (byte : ℕ) → slice_index (front ++ byte ∷ []) (length (front ++ byte ∷ []) - 1) ≡ byte
last_byte front byte =
    let size : length (front ++ byte ∷ []) - 1 ≡ length front = omega (arith, length-append front (byte ∷ [])) in
    ap (slice_index (front ++ byte ∷ [])) size ∙ get_or-append_seam front byte [] 0

-- a text is its bytes before the last one, followed by that one
with_last : (byte : ℕ) (text : Bytes) → take (length text) (byte ∷ text) ++ slice_index (byte ∷ text) (length text) ∷ [] ≡ byte ∷ text
with_last byte text = sym (take_more (byte ∷ text) (length text) 0 (omega arith)) ∙ take_all (length text + 1) (byte ∷ text) (omega arith)

angled_tested : (name : Bytes) → IsAngled name → is_angled name ≡ true
unfolding is_angled
angled_tested name (inner, is) =
    let size = length-append inner (62 ∷ []) in
    subst (λ n. is_angled n ≡ true) (sym is)
    (and_from (nat_le 2 (length (60 ∷ inner ++ 62 ∷ [])) && (60 == 60)) (slice_index (60 ∷ inner ++ 62 ∷ []) (length (60 ∷ inner ++ 62 ∷ []) - 1) == 62)
    (and_from (nat_le 2 (length (60 ∷ inner ++ 62 ∷ []))) (60 == 60) (le-leb 2 (length (60 ∷ inner ++ 62 ∷ [])) (omega (arith, size))) refl)
    (eq-eqb _ 62 (last_byte (60 ∷ inner) 62)))

tested_angled : (name : Bytes) → is_angled name ≡ true → IsAngled name
unfolding is_angled
tested_angled [] h = absurd (false≢true h)
tested_angled (a ∷ []) h = absurd (false≢true h)
tested_angled (a ∷ b ∷ name) h =
    let parts = and_parts (nat_le 2 (length (a ∷ b ∷ name)) && (a == 60)) (slice_index (a ∷ b ∷ name) (length (a ∷ b ∷ name) - 1) == 62) h in
    let front = and_parts (nat_le 2 (length (a ∷ b ∷ name))) (a == 60) parts.0 in
    let begins : a ≡ 60 = eqb-true a 60 front.1 in
    let place : length (a ∷ b ∷ name) - 1 ≡ length (b ∷ name) = omega arith in
    let ends : slice_index (b ∷ name) (length name) ≡ 62 = ap (slice_index (a ∷ b ∷ name)) (sym place) ∙ eqb-true (slice_index (a ∷ b ∷ name) (length (a ∷ b ∷ name) - 1)) 62 parts.1 in
    (take (length name) (b ∷ name), λ i. begins i ∷ (sym (with_last b name) ∙ ap (λ last. take (length name) (b ∷ name) ++ last ∷ []) ends) i)

-- a name that is passed over is empty, in angle brackets, or of a system header where these are skipped
pub passed_for : (skips : Bool) (name : Bytes) (system : Bool) → is_passed skips name system ≡ true → name ≢ [] → (IsAngled name → ⊥) → (skips ≡ true → system ≡ false) → ⊥
unfolding is_passed
passed_for skips [] system h some angled wanted = some refl
passed_for skips (byte ∷ name) system h some angled wanted =
    elim (or_cases (is_angled (byte ∷ name)) (skips && system) h) [
      | inl is ↦ angled (tested_angled (byte ∷ name) is)
      | inr both ↦ (let parts = and_parts skips system both in false≢true (sym (wanted parts.0) ∙ parts.1))
    ]

both_off : (skips system : Bool) → (skips && system) ≡ false → skips ≡ true → system ≡ false
both_off true system h on = h
both_off false system h on = absurd (false≢true on)

-- and any other is not empty, not in angle brackets, and of no system header where these are skipped
pub taken_for : (skips : Bool) (name : Bytes) (system : Bool) → is_passed skips name system ≡ false → (name ≢ []) × (IsAngled name → ⊥) × (skips ≡ true → system ≡ false)
unfolding is_passed
taken_for skips [] system h = absurd (false≢true (sym h))
taken_for skips (byte ∷ name) system h =
    let parts = or_parts (is_angled (byte ∷ name)) (skips && system) h in
    (λ e. cc, λ angled. false≢true (sym parts.0 ∙ angled_tested (byte ∷ name) angled), both_off skips system parts.1)
