-- checksums of bytes that differ in one byte
use Rattle.std.proofs.Common.{◌≡◌, ℕ, zero, suc, ◌+◌, ◌*◌, ◌/◌, ◌%◌, ◌^◌, ◌<◌, List, [], ◌∷◌, sym, ap, ◌∙◌, arith, lit<}
use Rattle.std.specs.Prelude.{fold}
use Rattle.std.specs.Int.{bit_at}
use Rattle.std.specs.Int.Bits.{bit_xor}
use Rattle.std.specs.List.{AllByRecursion}
use Rattle.std.proofs.lemmas.Nat.{mul-mod_first, xor_comm, xor_lt}
use Rattle.std.proofs.lemmas.Nat.Bits.{bit_at-lt, bit_at-suc, bit_at_lowest, bit_at_xor}
use Rattle.std.proofs.lemmas.List.Sums.{fold-append}
use Rattle.std.proofs.Math.Nat.{add-mul-mod_self_left}
use Rattle.cck_explain_listing.specs.Checksum.{OneByteShows, checksum, next}

-- numbers with the same bits are equal
same_bits : (k a b : ℕ) → a < 2 ^ k → b < 2 ^ k → ((i : ℕ) → bit_at a i ≡ bit_at b i) → a ≡ b
same_bits zero a b p q h = omega arith
same_bits (suc k) a b p q h =
    let lowest : a % 2 ≡ b % 2 = sym (bit_at_lowest a) ∙ h 0 ∙ bit_at_lowest b in
    let double : 2 ^ suc k ≡ 2 * 2 ^ k = omega arith in
    let others : a / 2 ≡ b / 2 = same_bits k (a / 2) (b / 2) (omega arith) (omega arith) (λ i. sym (bit_at-suc a i) ∙ h (suc i) ∙ bit_at-suc b i) in
    omega arith

xor_same : (s a b : ℕ) → a < 2 ^ 64 → b < 2 ^ 64 → bit_xor s a ≡ bit_xor s b → a ≡ b
xor_same s a b p q e = same_bits 64 a b p q (λ i.
    let sums : (bit_at s i + bit_at a i) % 2 ≡ (bit_at s i + bit_at b i) % 2 = sym (bit_at_xor s a i) ∙ ap (λ n. bit_at n i) e ∙ bit_at_xor s b i in
    omega (arith, bit_at-lt s i, bit_at-lt a i, bit_at-lt b i))

-- the multiplication can be undone
undone : (u : ℕ) → u < 18446744073709551616 → (u * 1099511628211 % 18446744073709551616 * 14886173955864302971) % 18446744073709551616 ≡ u
undone u h =
    let all : u * 1099511628211 * 14886173955864302971 ≡ u + 18446744073709551616 * (u * 887285111055) = omega arith in
    mul-mod_first (u * 1099511628211) 14886173955864302971 18446744073709551616
    ∙ ap (λ n. n % 18446744073709551616) all
    ∙ add-mul-mod_self_left u 18446744073709551616 (u * 887285111055)
    ∙ omega arith

next_lt : (s byte : ℕ) → next s byte < 2 ^ 64
next_lt s byte = omega arith

multiplied : (u v : ℕ) → u < 18446744073709551616 → v < 18446744073709551616 → u * 1099511628211 % 18446744073709551616 ≡ v * 1099511628211 % 18446744073709551616 → u ≡ v
multiplied u v p q e = sym (undone u p) ∙ ap (λ n. n * 14886173955864302971 % 18446744073709551616) e ∙ undone v q

-- after two states the same bytes lead to one state only if the two are the same
same_before : (back : List ℕ) (s t : ℕ) → s < 2 ^ 64 → t < 2 ^ 64 → AllByRecursion (λ byte. byte < 256) back → fold next s back ≡ fold next t back → s ≡ t
same_before [] s t p q all e = e
same_before (byte ∷ back) s t p q all e =
    let fits : byte < 2 ^ 64 = omega (arith, all.0) in
    let after = same_before back (next s byte) (next t byte) (next_lt s byte) (next_lt t byte) all.1 e in
    let mixed : bit_xor s byte ≡ bit_xor t byte = multiplied (bit_xor s byte) (bit_xor t byte) (xor_lt 64 s byte p fits) (xor_lt 64 t byte q fits) after in
    xor_same byte s t p q (xor_comm byte s ∙ mixed ∙ xor_comm t byte)

after_fits : (s : ℕ) (front : List ℕ) → s < 2 ^ 64 → fold next s front < 2 ^ 64
after_fits s [] h = h
after_fits s (byte ∷ front) h = after_fits (next s byte) front (next_lt s byte)

pub one_byte_shows : OneByteShows
unfolding checksum
one_byte_shows front back a b p q all other e =
    let s = fold next 14695981039346656037 front in
    let fits : s < 2 ^ 64 = after_fits 14695981039346656037 front (lit< tt) in
    let a_fits : a < 2 ^ 64 = omega arith in
    let b_fits : b < 2 ^ 64 = omega arith in
    let split : fold next (next s a) back ≡ fold next (next s b) back =
    sym (fold-append next 14695981039346656037 front (a ∷ back)) ∙ e ∙ fold-append next 14695981039346656037 front (b ∷ back) in
    let after = same_before back (next s a) (next s b) (next_lt s a) (next_lt s b) all split in
    other (xor_same s a b a_fits b_fits (multiplied (bit_xor s a) (bit_xor s b) (xor_lt 64 s a fits a_fits) (xor_lt 64 s b fits b_fits) after))
