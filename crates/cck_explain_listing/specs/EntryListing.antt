-- the listing of an entry
use Rattle.std.specs.Prelude.{[], ◌∷◌, ◌++◌, codes, length, Option, Some, None}
use Rattle.std.specs.FinMap.{entries}
use Rattle.std.specs.Fmt.{decimal, signed_decimal}
use Rattle.std.specs.List.{flat_map}
use Rattle.cck_entry.specs.Entry.{Entry}
use Rattle.cck_entry.specs.Results.{KeyResult}
use Rattle.cck_explain_listing.specs.Quoted.{quoted}
use Rattle.cck_include.specs.Include.{Include}
use Rattle.cck_path.specs.Bytes.{Bytes}
use Rattle.cck_path.specs.Timestamp.{Moment}

-- a time by its seconds and nanoseconds
abbrev pub moment_text : Moment → Bytes
moment_text time = signed_decimal time.seconds ++ codes "s" ++ decimal time.nanoseconds ++ codes "ns"

-- a time, or that there is none
abbrev pub time_text : Option Moment → Bytes
time_text None = codes "-"
time_text (Some time) = moment_text time

-- the line of an include: its path, digest, size, and the times of its last modification and last change
abbrev pub include_line : Include → Bytes
include_line i =
    codes "include " ++ quoted i.path ++ codes " " ++ quoted i.digest ++ codes " " ++ decimal i.size ++ codes " "
    ++ time_text i.modified ++ codes " " ++ time_text i.changed ++ 10 ∷ []

-- the lines of a result: its key and the number of its includes, and the includes
abbrev pub result_lines : KeyResult → Bytes
result_lines r = codes "result " ++ quoted (r.0) ++ codes " " ++ decimal (length (r.1)) ++ 10 ∷ [] ++ flat_map include_line (r.1)

-- the lines of an entry: those of each result, in the order of the keys
abbrev pub entry_lines : Entry → Bytes
entry_lines e = flat_map result_lines (entries e)
