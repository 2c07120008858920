-- what recorded digests imply
use Rattle.std.specs.Prelude.{◌≡◌, ℕ, true, false, List, length, if◌then◌else◌, Some}
use Rattle.cck_digest.specs.Digest.{digest_text}
use Rattle.cck_files.specs.FileMap.{FileNode}
use Rattle.cck_path.specs.Timestamp.{Moment, nanos_of}
use Rattle.cck_path.specs.Variables.{Variable}
use Rattle.cck_include.specs.TimePart.{AreOfOneSecond, local_day, source_date_epoch}
use Rattle.cck_include.specs.Recorded.{counts_part, file_time_part, has_date, has_time, has_timestamp, recorded}
use Rattle.cck_include.specs.Setting.{Setting}

-- if the output of the hash function has 32 bytes, a recorded digest has 64 characters, and 128 where a time part counts
abbrev pub RecordedHasLength : Type 0
RecordedHasLength =
    (s : Setting) (n : FileNode) (digest : List ℕ) → ((fed : List ℕ) → length (s.hash fed) ≡ 32) → recorded s n ≡ Some digest
    → length digest ≡ (if counts_part s n then 128 else 64)

-- the setting at another call time, with other variables
abbrev pub at_moment : Moment → List Variable → Setting → Setting
at_moment moment variables s = record { hash = s.hash; config = s.config; moment = moment; zone = s.zone; variables = variables }

-- these two have different hex digests if they are different
abbrev pub IsDetermined : (List ℕ → List ℕ) → List ℕ → List ℕ → Type 0
IsDetermined hash a b = digest_text hash a ≡ digest_text hash b → a ≡ b

-- the hash function has no collision between the contents of these two files, nor between their time parts where both count
pub record AreTold (s t : Setting) (n o : FileNode) : Type 0 where
  pub contents : IsDetermined s.hash n.contents o.contents
  pub parts : (p q : List ℕ) → counts_part s n ≡ true → counts_part t o ≡ true → file_time_part s n ≡ Some p → file_time_part t o ≡ Some q → IsDetermined s.hash p q

-- Two files show the same text: their contents are the same, and where time macros count, there is no `__TIME__` in them. With a `__DATE__`, the
-- local day and `SOURCE_DATE_EPOCH` are the same, and with a `__TIMESTAMP__` the local second of modification.
pub record ShowTheSame (s t : Setting) (n o : FileNode) : Type 0 where
  pub contents : n.contents ≡ o.contents
  pub time : s.config.ignore_time_macros ≡ false → has_time n.contents ≡ false
  pub day : s.config.ignore_time_macros ≡ false → has_date n.contents ≡ true → local_day s.zone (nanos_of s.moment) ≡ local_day s.zone (nanos_of t.moment)
  pub epoch : s.config.ignore_time_macros ≡ false → has_date n.contents ≡ true → source_date_epoch s.variables ≡ source_date_epoch t.variables
  pub second : s.config.ignore_time_macros ≡ false → has_timestamp n.contents ≡ true
      → AreOfOneSecond s.zone n.modified o.modified

-- files with equal recorded digests, even of other call times and variables, show the same text
abbrev pub EqualDigestsTell : Type 0
EqualDigestsTell =
    (s : Setting) (moment : Moment) (variables : List Variable) (n o : FileNode) (digest : List ℕ) → ((fed : List ℕ) → length (s.hash fed) ≡ 32)
    → AreTold s (at_moment moment variables s) n o
    → recorded s n ≡ Some digest → recorded (at_moment moment variables s) o ≡ Some digest → ShowTheSame s (at_moment moment variables s) n o
