-- the recorded digest of a file
use Rattle.std.specs.Prelude.{ℕ, Bool, true, false, ◌&&◌, ◌||◌, not, List, ◌++◌, Option, Some, None}
use Rattle.cck_digest.specs.Digest.{digest_text}
use Rattle.cck_digest.specs.TimeMacros.{has, time_macro, date_macro, timestamp_macro}
use Rattle.cck_files.specs.FileMap.{FileNode}
use Rattle.cck_include.specs.TimePart.{time_part}
use Rattle.cck_include.specs.Setting.{Setting}

-- whether the contents have this time macro
unfoldable pub has_time : List ℕ → Bool
has_time contents = has contents time_macro

unfoldable pub has_date : List ℕ → Bool
has_date contents = has contents date_macro

unfoldable pub has_timestamp : List ℕ → Bool
has_timestamp contents = has contents timestamp_macro

-- whether the contents have a `__DATE__` or a `__TIMESTAMP__`
abbrev pub is_timed : List ℕ → Bool
is_timed contents = has_date contents || has_timestamp contents

-- the time part of a file: what its dates and timestamps show, if that can be computed
abbrev pub file_time_part : Setting → FileNode → Option (List ℕ)
file_time_part s n = time_part (has_date n.contents) (has_timestamp n.contents) n.modified s.moment s.zone s.variables

-- a hex digest, followed by that of the time part where one counts. There is none where a `__TIME__` counts, or where the time part cannot be
-- computed
abbrev pub recorded_by : (List ℕ → List ℕ) → Bool → Bool → List ℕ → Option (List ℕ) → Option (List ℕ)
recorded_by hash true timed text part = None
recorded_by hash false false text part = Some text
recorded_by hash false true text None = None
recorded_by hash false true text (Some p) = Some (text ++ digest_text hash p)

-- time macros count, and the file's time part with them
abbrev pub counts_part : Setting → FileNode → Bool
counts_part s n = not s.config.ignore_time_macros && is_timed n.contents

-- the recorded digest of a file, if it has one
unfoldable pub recorded : Setting → FileNode → Option (List ℕ)
recorded s n = recorded_by s.hash (not s.config.ignore_time_macros && has_time n.contents) (counts_part s n) (digest_text s.hash n.contents) (file_time_part s n)
