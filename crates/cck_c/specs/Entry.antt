-- entries, for a caller that passes their bytes, and what they say as it is stored
use Rattle.std.specs.Prelude.{◌≡◌, ◌≢◌, ◌≤◌, ℕ, ℤ, pos, List, ◌∷◌, length, map, take, drop, Option, Some, None}
use Rattle.cck_include.specs.Include.{Include, format_version}
use Rattle.cck_path.specs.Timestamp.{Moment}
use Rattle.cck_digest.specs.declared.entry_error.Error.{Error}
use Rattle.cck_digest.specs.declared.entry_error.Error.TheVariants.{Deserialization, Io, Memory, UnknownFormat}
use Rattle.cck_entry.specs.Entry.{Entry, EntryText}
use Rattle.cck_entry.specs.Reading.{IsOvercounted}
use Rattle.cck_entry.specs.Results.{KeyResult}
use Rattle.cck_c.specs.declared.entry.EntryInclude.{EntryInclude}
use Rattle.cck_c.specs.declared.entry.EntryResult.{EntryResult}
use Rattle.cck_c.specs.declared.entry.EntryTime.{EntryTime}

-- the bytes begin with the byte of another format
abbrev pub IsOtherFormat : List ℕ → Type 0
IsOtherFormat bytes = (first : ℕ) × (rest : List ℕ) × (bytes ≡ first ∷ rest) × (first ≢ format_version)

-- the bytes begin as an entry does, and are the text of none
abbrev pub IsDamaged : List ℕ → Type 0
IsDamaged bytes = (rest : List ℕ) × (bytes ≡ format_version ∷ rest) × ((e : Entry) → EntryText e bytes → ⊥)

-- the bytes begin as an entry does, and the rest of them may hold as many results as they name
abbrev pub MayLackMemory : List ℕ → Type 0
MayLackMemory bytes = (rest : List ℕ) × (bytes ≡ format_version ∷ rest) × (IsOvercounted rest → ⊥)

-- the status of an error
abbrev pub IsStatusOf : Error → ℤ → Type 0
IsStatusOf Memory status = status ≡ pos 1
IsStatusOf (UnknownFormat byte) status = status ≡ pos 5
IsStatusOf Deserialization status = status ≡ pos 6
IsStatusOf (Io text) status = status ≡ pos 6

-- a result's key and the number of its includes
abbrev pub key_and_count : KeyResult → List ℕ × ℕ
key_and_count r = (r.0, length (r.1))

-- the same, as stored
abbrev pub passed_result : EntryResult → List ℕ × ℕ
passed_result r = (r.key.now, r.includes)

-- a time as it is stored: its seconds, its nanoseconds and 1, or zeros if there is none
abbrev pub stored_time : Option Moment → EntryTime
stored_time None = record { seconds = pos 0; nanoseconds = 0; is_known = 0 }
stored_time (Some time) = record { seconds = time.seconds; nanoseconds = time.nanoseconds; is_known = 1 }

-- the fields of an include as it is stored: path, digest, size, and the times of the last modification and of the last change
abbrev pub IncludeFields : Type 0
IncludeFields = List ℕ × List ℕ × ℕ × EntryTime × EntryTime

abbrev pub include_fields : Include → IncludeFields
include_fields i = (i.path, i.digest, i.size, stored_time i.modified, stored_time i.changed)

-- the same, of what is stored
abbrev pub passed_include : EntryInclude → IncludeFields
passed_include i = (i.path.now, i.digest.now, i.size, i.modified, i.changed)

-- the array begins with these values, and its rest is as before
pub record IsFilled {A B : Type 0} (value : A → B) (values : List B) (old new : List A) : Type 0 where
  pub fits : length values ≤ length old
  pub written : map value (take (length values) new) ≡ values
  pub rest : drop (length values) new ≡ drop (length values) old
