-- a number of bytes, and the limit of a store
use Rattle.std.specs.Prelude.{◌≡◌, ◌<◌, ◌*◌, ◌^◌, ◌⊎◌, ℕ, Bool, not, List, Option, MatchOption, codes, drop}
use Rattle.std.specs.Char.{is_ascii_digit}
use Rattle.std.specs.List.{before_first, position_or_len}
use Rattle.std.specs.Str.Parse.{IsNumeral, digits_value}

-- no decimal digit
abbrev pub is_other : ℕ → Bool
is_other byte = not (is_ascii_digit byte)

-- the digits at the start of a text, and what follows them
abbrev pub number_of : List ℕ → List ℕ
number_of text = before_first is_other text

abbrev pub suffix_of : List ℕ → List ℕ
suffix_of text = drop (position_or_len is_other text) text

-- the bytes of the unit with this suffix
pub data IsUnit : List ℕ → ℕ → Type 0 where
  byte : IsUnit (codes "") 1
  kilobyte : IsUnit (codes "k") (10 ^ 3)
  megabyte : IsUnit (codes "M") (10 ^ 6)
  gigabyte : IsUnit (codes "G") (10 ^ 9)
  terabyte : IsUnit (codes "T") (10 ^ 12)
  kibibyte : IsUnit (codes "Ki") (2 ^ 10)
  mebibyte : IsUnit (codes "Mi") (2 ^ 20)
  gibibyte : IsUnit (codes "Gi") (2 ^ 30)
  tebibyte : IsUnit (codes "Ti") (2 ^ 40)

-- a size: a number in decimal digits and the suffix of a unit, together below 2^64
pub record IsSize (text : List ℕ) (size : ℕ) : Type 0 where
  pub unit : ℕ
  pub number : IsNumeral 10 (number_of text)
  pub suffix : IsUnit (suffix_of text) unit
  pub value : size ≡ digits_value 10 (number_of text) * unit
  pub below : size < 2 ^ 64

-- the limit that a text says: none for the size 0, and 5000000000 for what is no size
abbrev pub IsLimit : List ℕ → Option ℕ → Type 0
IsLimit text limit = MatchOption limit (IsSize text 0)
    (λ most. (IsSize text most × (0 < most)) ⊎ (((size : ℕ) → IsSize text size → ⊥) × (most ≡ 5000000000)))
