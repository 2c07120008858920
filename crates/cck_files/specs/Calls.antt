-- what calls on files do to their map and to their count of faults
use Rattle.std.specs.Prelude.{◌≡◌, ℕ, ◌+◌, ◌-◌, ◌^◌, ◌<◌, ◌≤◌, ◌⊎◌, List, ◌++◌, length, min, take, drop, Result, Err}
use Rattle.cck_digest.specs.declared.error.FileError.{FileError}
use Rattle.cck_digest.specs.declared.error.FileError.TheVariants.{NotFound, OtherKind, Fault, Memory}
use Rattle.cck_path.specs.Path.{Path}
use Rattle.cck_files.specs.FileMap.{FileMap}

-- a count of 64 bits rose: it is higher, or at its greatest value, where it stays
abbrev pub Rose : ℕ → ℕ → Type 0
Rose before after = (before < after) ⊎ (2 ^ 64 ≤ after + 1)

-- the map is unchanged, the count of faults never falls, and quiet files stay quiet and meet no fault
pub record Keeps {F : Type 0} (file_map : F → FileMap) (faults : F → ℕ) (is_quiet : F → Type 0) (before after : F) : Type 0 where
  pub same_map : file_map after ≡ file_map before
  pub not_lower : faults before ≤ faults after
  pub stays_quiet : is_quiet before → is_quiet after
  pub stays_calm : is_quiet before → faults after ≡ faults before

-- calls lead from one state to another, each of them at such a path
pub data AreCalls {F : Type 0} (is_call : F → Path → F → Type 0) (At : Path → Type 0) (before : F) : F → Type 0 where
  none : {after : F} → after ≡ before → AreCalls is_call At before after
  one_more : {after : F} (between : F) (p : Path) → AreCalls is_call At before between → At p → is_call between p after → AreCalls is_call At before after

-- the error of a call: the map's own, or a fault where there was one, or lack of memory where it is possible
abbrev pub IsErrorWhere : {X : Type 0} → Result X FileError → Type 0 → Type 0 → FileError → Type 0
IsErrorWhere found HasFault TakesMemory NotFound = found ≡ Err NotFound
IsErrorWhere found HasFault TakesMemory OtherKind = found ≡ Err OtherKind
IsErrorWhere found HasFault TakesMemory Fault = HasFault
IsErrorWhere found HasFault TakesMemory Memory = TakesMemory

-- the error of a call that allocates no memory
abbrev pub IsError : {X : Type 0} → Result X FileError → Type 0 → FileError → Type 0
IsError found HasFault = IsErrorWhere found HasFault ⊥

-- the error of a call that takes memory
abbrev pub IsErrorOrMemory : {X : Type 0} → Result X FileError → Type 0 → FileError → Type 0
IsErrorOrMemory found HasFault = IsErrorWhere found HasFault (Unit {0})

-- n bytes of these contents were read from an offset on, and none of them only at the end
pub record IsRead (contents : List ℕ) (offset n : ℕ) (buffer : List ℕ) : Type 0 where
  pub within : n ≤ length buffer
  pub inside : n ≤ length contents - offset
  pub bytes : take n buffer ≡ take n (drop offset contents)
  pub at_end : n ≡ 0 → 0 < length buffer → length contents ≤ offset
  pub fits : offset ≤ 2 ^ 64 - 1 - n

-- n bytes were read, as there is room for or as are left, whichever is less; the rest of the buffer is unchanged
pub record IsFullRead (contents : List ℕ) (offset n : ℕ) (before after : List ℕ) : Type 0 where
  pub count : n ≡ min (length before) (length contents - offset)
  pub bytes : after ≡ take n (drop offset contents) ++ drop n before
