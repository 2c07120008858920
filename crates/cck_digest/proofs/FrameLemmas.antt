-- A length, and what is written after one, can be read back from the bytes, whatever follows them.
use native.Mathlib.Nat as nat
use Rattle.std.proofs.Common.{◌≡◌, ℕ, zero, suc, ◌/◌, ◌%◌, ◌<◌, ◌^◌, List, [], ◌∷◌, ◌++◌, Option, Some, None, length, refl, sym, ap, ◌∙◌, arith, append_assoc}
use Rattle.std.specs.Int.{to_le_bytes, w64}
use Rattle.std.specs.List.{flat_map}
use Rattle.cck_digest.specs.Frames.{digits, length_bytes, frame, framed_list, framed_option}
use Rattle.cck_digest.proofs.ReadsBack.{ReadsBack, bytes_read_back, items_read_back}

length-digits : (k n : ℕ) → length (digits k n) ≡ suc k
length-digits zero n = refl
length-digits (suc k) n = ap suc (length-digits k (n / 256))

number_from_digits : (k n m : ℕ) → digits k n ≡ digits k m → n ≡ m
number_from_digits zero n m e = cc
number_from_digits (suc k) n m e =
    let low : n % 256 ≡ m % 256 = cc in
    let rest : digits k (n / 256) ≡ digits k (m / 256) = cc in
    let high : n / 256 ≡ m / 256 = number_from_digits k (n / 256) (m / 256) rest in
    omega arith

pub length_reads_back : (n m : ℕ) → ReadsBack length_bytes n m
unfolding length_bytes
length_reads_back n m s t e =
    let both = bytes_read_back (digits 7 n) (digits 7 m) s t (length-digits 7 n ∙ sym (length-digits 7 m)) e in
    (number_from_digits 7 n m both.0, both.1)

pub frame_reads_back : (x y : List ℕ) → ReadsBack frame x y
frame_reads_back x y s t e =
    let split = sym (append_assoc (length_bytes (length x)) x s) ∙ (e ∙ append_assoc (length_bytes (length y)) y t) in
    let lengths = length_reads_back (length x) (length y) (x ++ s) (y ++ t) split in
    bytes_read_back x y s t lengths.0 lengths.1

-- a list whose items read back
pub framed_list_reads_back : {A : Type 0} (item : A → List ℕ) → ((x y : A) → ReadsBack item x y) → (xs ys : List A) → ReadsBack (framed_list item) xs ys
framed_list_reads_back item one xs ys s t e =
    let split = sym (append_assoc (length_bytes (length xs)) (flat_map item xs) s) ∙ (e ∙ append_assoc (length_bytes (length ys)) (flat_map item ys) t) in
    let counts = length_reads_back (length xs) (length ys) (flat_map item xs ++ s) (flat_map item ys ++ t) split in
    items_read_back item one xs ys counts.0 s t counts.1

zero_one : (s t : List ℕ) → 0 ∷ s ≡ 1 ∷ t → ⊥
zero_one s t e = let first : ◌≡◌ {A = ℕ} 0 1 = cc in omega arith

pub option_reads_back : (x y : Option (List ℕ)) → ReadsBack framed_option x y
option_reads_back None None s t e = (refl, cc)
option_reads_back None (Some y) s t e = absurd (zero_one _ _ e)
option_reads_back (Some x) None s t e = absurd (zero_one _ _ (sym e))
option_reads_back (Some x) (Some y) s t e =
    let rest : frame x ++ s ≡ frame y ++ t = cc in
    let both = frame_reads_back x y s t rest in
    (ap Some both.0, both.1)

-- below 2 ^ 64 the digits of a length are the bytes of a 64-bit number
pub length_bytes_are_bytes : (n : ℕ) → n < 2 ^ 64 → length_bytes n ≡ to_le_bytes w64 n
unfolding length_bytes
length_bytes_are_bytes n fits =
    let second : n / 256 / 256 ≡ n / 65536 = nat.div-div-eq-div-mul n 256 256 in
    let third : n / 256 / 256 / 256 ≡ n / 16777216 = ap (λ m. m / 256) second ∙ nat.div-div-eq-div-mul n 65536 256 in
    let fourth : n / 256 / 256 / 256 / 256 ≡ n / 4294967296 = ap (λ m. m / 256) third ∙ nat.div-div-eq-div-mul n 16777216 256 in
    let fifth : n / 256 / 256 / 256 / 256 / 256 ≡ n / 1099511627776 = ap (λ m. m / 256) fourth ∙ nat.div-div-eq-div-mul n 4294967296 256 in
    let sixth : n / 256 / 256 / 256 / 256 / 256 / 256 ≡ n / 281474976710656 = ap (λ m. m / 256) fifth ∙ nat.div-div-eq-div-mul n 1099511627776 256 in
    let seventh : n / 256 / 256 / 256 / 256 / 256 / 256 / 256 ≡ n / 72057594037927936 = ap (λ m. m / 256) sixth ∙ nat.div-div-eq-div-mul n 281474976710656 256 in
    let small : n / 72057594037927936 ≡ n / 72057594037927936 % 256 = omega arith in
    let last = seventh ∙ small in
    λ i. n % 256 ∷ n / 256 % 256 ∷ second i % 256 ∷ third i % 256 ∷ fourth i % 256 ∷ fifth i % 256 ∷ sixth i % 256 ∷ last i ∷ []
