-- the bytes that results are written in, numbers with the lowest byte first
use Rattle.std.specs.Prelude.{ℕ, List, [], ◌∷◌, ◌++◌, length, Option, Some, None}
use Rattle.std.specs.Int.{w32, w64, cast_unsigned, to_le_bytes}
use Rattle.std.specs.List.{flat_map}
use Rattle.cck_path.specs.Timestamp.{Moment}
use Rattle.cck_entry.specs.Results.{KeyResult}
use Rattle.cck_include.specs.Include.{Include, format_version}

-- the length of these bytes in 8 bytes, and the bytes
abbrev pub length_prefixed : List ℕ → List ℕ
length_prefixed bytes = to_le_bytes w64 (length bytes) ++ bytes

-- seconds in 8 bytes, and nanoseconds in 4
abbrev pub moment_bytes : Moment → List ℕ
moment_bytes t = to_le_bytes w64 (cast_unsigned w64 t.seconds) ++ to_le_bytes w32 t.nanoseconds

-- 0 for no time, or 1 and the time
abbrev pub time_bytes : Option Moment → List ℕ
time_bytes None = 0 ∷ []
time_bytes (Some t) = 1 ∷ moment_bytes t

abbrev pub include_bytes : Include → List ℕ
include_bytes i = length_prefixed i.path ++ (length_prefixed i.digest ++ (to_le_bytes w64 i.size ++ (time_bytes i.modified ++ time_bytes i.changed)))

-- a key, and how many includes follow
abbrev pub result_bytes : KeyResult → List ℕ
result_bytes r = length_prefixed (r.0) ++ (to_le_bytes w64 (length (r.1)) ++ flat_map include_bytes (r.1))

-- the format, how many results follow, and these
abbrev pub entry_bytes : List KeyResult → List ℕ
entry_bytes rs = format_version ∷ (to_le_bytes w64 (length rs) ++ flat_map result_bytes rs)
