-- what the time macros of a file show at a call time, in a zone
use Rattle.std.specs.Prelude.{◌≡◌, ℕ, ◌&&◌, Bool, true, false, ℤ, pos, neg_ℤ, ◌+ℤ◌, int_le, List, [], ◌++◌, Option, Some, None, option_map, codes, if◌then◌else◌}
use Rattle.std.specs.Option.{option_and_then}
use Rattle.std.specs.Int.{w32, w64, cast_unsigned, to_le_bytes, int_div_euclid}
use Rattle.cck_digest.specs.Digest.{delimiter_bytes}
use Rattle.cck_digest.specs.Frames.{framed_option}
use Rattle.cck_path.specs.Timestamp.{Moment, nanos_of}
use Rattle.cck_path.specs.Variables.{Variable, first_value}
use Rattle.jiff.specs.Types.{TimeZone}
use Rattle.jiff.specs.Words.{nanos_of_seconds, offset_at}
use Rattle.cck_include.specs.Calendar.{CivilDate, date_of_day}

-- whether n nanoseconds since 1970-01-01T00:00:00Z are an instant, which has a civil time in every zone
abbrev pub is_instant : ℤ → Bool
is_instant n = int_le (neg_ℤ (pos 377_705_023_201_000_000_000)) n && int_le n (pos 253_402_207_200_999_999_999)

-- the nanoseconds of a time, if it is an instant
abbrev pub instant_nanos : Moment → Option ℤ
instant_nanos t = if is_instant (nanos_of t) then Some (nanos_of t) else None

-- the civil time in the zone at an instant, in nanoseconds since 1970-01-01T00:00:00 without a zone
abbrev pub local_nanos : TimeZone → ℤ → ℤ
local_nanos zone n = n +ℤ nanos_of_seconds (offset_at zone n)

-- the same in whole days and in whole seconds, rounded down
abbrev pub local_day : TimeZone → ℤ → ℤ
local_day zone n = int_div_euclid (local_nanos zone n) (pos 86_400_000_000_000)

abbrev pub local_second : TimeZone → ℤ → ℤ
local_second zone n = int_div_euclid (local_nanos zone n) (pos 1_000_000_000)

-- the date in the zone at an instant
abbrev pub local_date : TimeZone → ℤ → Option CivilDate
local_date zone n = date_of_day (local_day zone n)

-- a name between bytes that separate what follows from what precedes
unfoldable pub delimiter : List ℕ → List ℕ
delimiter name = delimiter_bytes name

-- a number in 4 or 8 bytes, the lowest first, and in two's complement if it has a sign
unfoldable pub u32_bytes : ℕ → List ℕ
u32_bytes n = to_le_bytes w32 n

unfoldable pub i32_bytes : ℤ → List ℕ
i32_bytes n = to_le_bytes w32 (cast_unsigned w32 n)

unfoldable pub i64_bytes : ℤ → List ℕ
i64_bytes n = to_le_bytes w64 (cast_unsigned w64 n)

-- a date in 12 bytes: its year, its month and its day
abbrev pub date_bytes : CivilDate → List ℕ
date_bytes d = i32_bytes d.year ++ u32_bytes d.month ++ u32_bytes d.day

-- the value that a compiler shows in place of the date, if the variable is set
abbrev pub source_date_epoch : List Variable → Option (List ℕ)
source_date_epoch variables = first_value variables (codes "SOURCE_DATE_EPOCH")

-- the date at the call time, if the text shows it
unfoldable pub date_part : Bool → Moment → TimeZone → List Variable → Option (List ℕ)
date_part false moment zone variables = Some []
date_part true moment zone variables =
    option_map (λ d. delimiter (codes "date") ++ date_bytes d ++ framed_option (source_date_epoch variables))
    (option_and_then (local_date zone) (instant_nanos moment))

-- the second at which the file was modified, if the text shows it
unfoldable pub timestamp_part : Bool → Option Moment → TimeZone → Option (List ℕ)
timestamp_part false modified zone = Some []
timestamp_part true modified zone =
    option_map (λ n. delimiter (codes "timestamp") ++ i64_bytes (local_second zone n))
    (option_and_then instant_nanos modified)

-- both, if there is a part for each
unfoldable pub time_part : Bool → Bool → Option Moment → Moment → TimeZone → List Variable → Option (List ℕ)
time_part date timestamp modified moment zone variables =
    option_and_then (λ d. option_map (λ s. d ++ s) (timestamp_part timestamp modified zone))
    (date_part date moment zone variables)

-- both are known, and of the same local second
abbrev pub AreOfOneSecond : TimeZone → Option Moment → Option Moment → Type 0
AreOfOneSecond zone (Some t) (Some u) = local_second zone (nanos_of t) ≡ local_second zone (nanos_of u)
AreOfOneSecond zone _ _ = ⊥

-- the bytes were appended to the old ones, or there were none to append
abbrev pub IsAppended : List ℕ → List ℕ → Bool → Option (List ℕ) → Type 0
IsAppended old new true (Some bytes) = new ≡ old ++ bytes
IsAppended old new true None = ⊥
IsAppended old new false (Some bytes) = ⊥
IsAppended old new false None = Unit {0}
