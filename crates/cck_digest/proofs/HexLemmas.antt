-- The two digits of a byte determine the byte.
use Rattle.std.proofs.Common.{◌≡◌, ℕ, ◌<◌, ◌*◌, ◌%◌, ◌/◌, List, [], ◌∷◌, length, refl, arith, All}
use Rattle.std.proofs.lemmas.Bool.Decides.{nat_tests}
use Rattle.std.proofs.lemmas.List.Elements.{recursion_from_All}
use Rattle.std.specs.List.{AllByRecursion}
use Rattle.cck_digest.specs.Digest.{digest_text, hex_digit, hex_text}

hex_digit-injective : (a b : ℕ) → a < 16 → b < 16 → hex_digit a ≡ hex_digit b → a ≡ b
hex_digit-injective a b ha hb e = grind (arith, nat_tests)

byte_from_halves : (a b : ℕ) → a % 16 ≡ b % 16 → a / 16 ≡ b / 16 → a ≡ b
byte_from_halves a b low high = omega arith

bytes_from_digits : (a b : List ℕ) → AllByRecursion (λ byte. byte < 256) a → AllByRecursion (λ byte. byte < 256) b → hex_text a ≡ hex_text b → a ≡ b
bytes_from_digits [] [] ha hb e = refl
bytes_from_digits [] (y ∷ b) ha hb e = cc
bytes_from_digits (x ∷ a) [] ha hb e = cc
bytes_from_digits (x ∷ a) (y ∷ b) ha hb e =
    let low : hex_digit (x % 16) ≡ hex_digit (y % 16) = cc in
    let high : hex_digit (x / 16) ≡ hex_digit (y / 16) = cc in
    let others : hex_text a ≡ hex_text b = cc in
    let head : x ≡ y = byte_from_halves x y (hex_digit-injective _ _ (omega arith) (omega arith) low) (hex_digit-injective _ _ (omega arith) (omega arith) high) in
    let tail = bytes_from_digits a b ha.1 hb.1 others in
    cc

pub bytes_from_hex : (a b : List ℕ) → All (λ byte. byte < 256) a → All (λ byte. byte < 256) b → hex_text a ≡ hex_text b → a ≡ b
bytes_from_hex a b ha hb e = bytes_from_digits a b (recursion_from_All _ a ha) (recursion_from_All _ b hb) e

-- each byte has two digits
pub hex_length : (bytes : List ℕ) → length (hex_text bytes) ≡ 2 * length bytes
hex_length [] = refl
hex_length (byte ∷ bytes) = omega (arith, hex_length bytes)

-- so the hex digest of 32 bytes has 64 digits
pub text_length : (hash : List ℕ → List ℕ) (fed : List ℕ) → length (hash fed) ≡ 32 → length (digest_text hash fed) ≡ 64
text_length hash fed h = omega (arith, hex_length (hash fed), h)
