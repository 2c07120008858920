-- the numbers of a script
use Rattle.std.specs.Prelude.{ℕ, ℤ, pos, neg_ℤ, ◌+◌, ◌-◌, ◌*◌, ◌^◌, ◌==◌, ◌&&◌, nat_le, nat_lt, List, [], ◌∷◌, Bool, true, if◌then◌else◌, Option, Some, None}
use Rattle.std.specs.Option.{option_map}
use Rattle.cck_path.specs.Timestamp.{Moment, moment_of_nanos}

-- a byte that writes a decimal digit
abbrev pub is_digit : ℕ → Bool
is_digit b = nat_le 48 b && nat_le b 57

-- decimal digits alone
abbrev pub are_digits : List ℕ → Bool
are_digits [] = true
are_digits (b ∷ bs) = is_digit b && are_digits bs

-- the number that decimal digits write after the digits of a number
abbrev pub number_after : ℕ → List ℕ → ℕ
number_after n [] = n
number_after n (b ∷ bs) = number_after (n * 10 + (b - 48)) bs

-- the number that a text of decimal digits writes: at least one digit, with any zeros in front
abbrev pub natural : List ℕ → Option ℕ
natural [] = None
natural (b ∷ bs) = if are_digits (b ∷ bs) then Some (number_after 0 (b ∷ bs)) else None

-- a number if it has 64 bits
unfoldable pub capped : ℕ → Option ℕ
capped n = if nat_lt n (2 ^ 64) then Some n else None

abbrev pub capped_if : Option ℕ → Option ℕ
capped_if None = None
capped_if (Some n) = capped n

-- the number of 64 bits that a text of decimal digits writes
unfoldable pub magnitude : List ℕ → Option ℕ
magnitude text = capped_if (natural text)

-- a number up to a bound
abbrev pub up_to : ℕ → Option ℕ → Option ℕ
up_to most None = None
up_to most (Some n) = if nat_le n most then Some n else None

-- the number that a text writes: digits up to a bound, or `-` and digits up to another one
unfoldable pub integer : ℕ → ℕ → List ℕ → Option ℤ
integer least most [] = None
integer least most (b ∷ bs) = if b == 45 then option_map (λ n. neg_ℤ (pos n)) (up_to least (magnitude bs)) else option_map pos (up_to most (magnitude (b ∷ bs)))

abbrev pub from_one : Option ℕ → Option ℕ
from_one None = None
from_one (Some n) = if n == 0 then None else Some n

-- the number of a call of the store: from 1
unfoldable pub ordinal : List ℕ → Option ℕ
ordinal text = from_one (magnitude text)

-- an offset in seconds, less than a day to either side
unfoldable pub zone_offset : List ℕ → Option ℤ
zone_offset text = integer 86399 86399 text

-- the time at a number of nanoseconds, from -2^63 to 2^63 - 1
unfoldable pub time : List ℕ → Option Moment
time text = option_map moment_of_nanos (integer (2 ^ 63) (2 ^ 63 - 1) text)

-- a time, or none for a lone `-`
unfoldable pub file_time : List ℕ → Option (Option Moment)
file_time [] = option_map Some (time [])
file_time (b ∷ []) = if b == 45 then Some None else option_map Some (time (b ∷ []))
file_time (b ∷ c ∷ bs) = option_map Some (time (b ∷ c ∷ bs))
