-- the laws of entries
use Rattle.std.specs.Prelude.{◌≡◌, ◌↔◌, ◌⊎◌, ℕ, ◌≤◌, List, MatchBool, length}
use Rattle.std.specs.FinMap.{empty, entries, insert, len}
use Rattle.cck_entry.specs.Entry.{Entry, EntryText, added, include_count, is_over}
use Rattle.cck_include.specs.Include.{Include}

-- texts of entries are equal exactly if the entries are
abbrev pub OneTextOneEntry : Type 0
OneTextOneEntry = (e f : Entry) (a b : List ℕ) → EntryText e a → EntryText f b → (a ≡ b) ↔ (e ≡ f)

-- A result is added to the entry itself, or to the empty one where a limit is exceeded.
abbrev pub AddedToAllOrNothing : Type 0
AddedToAllOrNothing =
    (e : Entry) (key : List ℕ) (list : List Include) → MatchBool (is_over e (length list)) (added e key list ≡ insert empty key list) (added e key list ≡ insert e key list)

-- Afterwards there are at most 101 results, and at most 10000 includes unless there is only one result.
abbrev pub AddedIsLimited : Type 0
AddedIsLimited =
    (e : Entry) (key : List ℕ) (list : List Include) → (len (added e key list) ≤ 101) × ((len (added e key list) ≡ 1) ⊎ (include_count (entries (added e key list)) ≤ 10000))
