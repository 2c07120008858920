-- the time that a stamp says
use Rattle.std.specs.Prelude.{◌≡◌, ◌<◌, ◌==◌, FitsSigned, ℕ, ℤ, Bool, List, length}
use Rattle.std.specs.Str.Parse.{IsNumeral, digits_value, signed_digits_value, without_leading_plus, without_leading_sign}
use Rattle.std.specs.List.{after_first, before_first, position_or_len}
use mir.Syntax.{w64}

abbrev pub is_point : ℕ → Bool
is_point b = b == 46

-- The text is a number of seconds, with or without a sign, a point, and a number of nanoseconds below those of a second. Both are in decimal
-- digits, and the seconds are in 64 bits.
pub record IsStamp (text : List ℕ) (seconds : ℤ) (nanoseconds : ℕ) : Type 0 where
  pub point : position_or_len is_point text < length text
  pub digits : IsNumeral 10 (without_leading_sign (before_first is_point text))
  pub fit : FitsSigned w64 seconds
  pub seconds_are : seconds ≡ signed_digits_value 10 (before_first is_point text)
  pub fraction : IsNumeral 10 (without_leading_plus (after_first is_point text))
  pub nanoseconds_are : nanoseconds ≡ digits_value 10 (without_leading_plus (after_first is_point text))
  pub below : nanoseconds < 1000000000
