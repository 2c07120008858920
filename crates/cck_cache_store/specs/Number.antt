-- numbers in decimal digits
use Rattle.std.specs.Prelude.{◌≡◌, ℕ, ◌^◌, ◌<◌, IsUtf8, List}
use Rattle.std.specs.Str.Parse.{IsNumeral, digits_value, without_leading_plus}

-- a text is this number of at most 64 bits in decimal digits, which may follow a plus
pub record Says (text : List ℕ) (number : ℕ) : Type 0 where
  pub is_text : IsUtf8 text
  pub digits : IsNumeral 10 (without_leading_plus text)
  pub value : number ≡ digits_value 10 (without_leading_plus text)
  pub bound : number < 2 ^ 64

abbrev pub SaysNone : List ℕ → Type 0
SaysNone text = (number : ℕ) → Says text number → ⊥
