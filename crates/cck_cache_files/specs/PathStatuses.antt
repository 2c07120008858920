-- statuses of paths: the directories of absent paths, and included files
use Rattle.std.specs.Prelude.{◌≡◌, ◌<◌, ◌⊎◌, List, ℕ, [], ◌∷◌, ◌++◌, Option, Some, true, false, length, Contains}
use Rattle.std.specs.FinMap.{get}
use Rattle.std.specs.Global.{Vec}
use Rattle.std.specs.HashMap.{HashMap, get_by}
use Rattle.std.specs.Str.{bytes_eq}
use Rattle.cck_cache_rules.specs.PathStatus.{Status}
use Rattle.cck_entry.specs.Statuses.{Statuses, known_accepts}
use Rattle.cck_files.specs.FileState.{FileState}
use Rattle.cck_include.specs.Include.{Include}
use Rattle.cck_path.specs.Path.{Path, components}
use Rattle.cck_path.specs.Timestamp.{Moment}
use Rattle.cck_path.specs.declared.metadata.FileKind.TheVariants.{Folder}
use Rattle.cck_path.specs.declared.metadata.Metadata.{Metadata}
use Rattle.cck_cache_files.specs.Programs.{Lacks}
use Rattle.cck_cache_files.specs.Snapshot.{IsNodePut}
use Rattle.cck_cache_files.specs.Times.{IsEarlier}

-- a path is that of a name in a directory, which is not the root
pub record IsInDirectory (path directory : List ℕ) : Type 0 where
  pub name : List ℕ
  pub is_name : Lacks 47 name
  pub whole : path ≡ directory ++ 47 ∷ name
  pub is_some : 0 < length directory

-- what is known of the directory at a path, by the bytes of the path
abbrev pub directory_at : {S : Type 0} → HashMap (Vec ℕ) Metadata S → List ℕ → Option Metadata
directory_at directories path = get_by (λ known. bytes_eq path known.items) directories

-- a path is that of a name in a directory of which something is known
pub record IsInKnownDirectory {S : Type 0} (directories : HashMap (Vec ℕ) Metadata S) (path : List ℕ) : Type 0 where
  pub directory : List ℕ
  pub is_in : IsInDirectory path directory
  pub metadata : Metadata
  pub is_known : directory_at directories directory ≡ Some metadata
  pub is_directory : metadata.kind ≡ Folder

-- a status has two times before this one
abbrev pub IsStatusBefore : Moment → Status → Type 0
IsStatusBefore since status = IsEarlier status.modified since × IsEarlier status.changed since

abbrev pub AreStatusesBefore : Moment → List Status → Type 0
AreStatusesBefore since statuses = (status : Status) → Contains statuses status → IsStatusBefore since status

-- no status was added, or one of this path with two times before this one
abbrev pub IsStatusAdded : Moment → List ℕ → List Status → List Status → Type 0
IsStatusAdded since path before after =
    (after ≡ before) ⊎ ((status : Status) × (after ≡ before ++ status ∷ []) × (status.path ≡ path) × IsStatusBefore since status)

-- what is known of a path has the times of one of these statuses, which is of the path
pub record IsAsRecorded (recorded : List Status) (p : Path) (m : Metadata) : Type 0 where
  pub status : Status
  pub is_one : Contains recorded status
  pub path : components status.path ≡ p
  pub modified : m.modified ≡ Some status.modified
  pub changed : m.changed ≡ Some status.changed

abbrev pub AreAsRecorded : List Status → Statuses → Type 0
AreAsRecorded recorded known = (p : Path) (m : Metadata) → get known p ≡ Some m → IsAsRecorded recorded p m

-- the same of a directory, whose path has the bytes of the status's
pub record IsDirectoryAsRecorded (recorded : List Status) (path : List ℕ) (m : Metadata) : Type 0 where
  pub status : Status
  pub is_one : Contains recorded status
  pub path_is : status.path ≡ path
  pub modified : m.modified ≡ Some status.modified
  pub changed : m.changed ≡ Some status.changed

abbrev pub AreDirectoriesAsRecorded : {S : Type 0} → List Status → HashMap (Vec ℕ) Metadata S → Type 0
AreDirectoriesAsRecorded recorded directories = (path : List ℕ) (m : Metadata) → directory_at directories path ≡ Some m → IsDirectoryAsRecorded recorded path m

-- An include is accepted by what is known of its path, and the snapshot is as it was; or what is at its path was put into the snapshot.
abbrev pub IsIncludeAdded : Include → Statuses → FileState → FileState → Type 0
IsIncludeAdded i known before after =
    ((known_accepts i (get known (components i.path)) ≡ true) × (after ≡ before))
    ⊎ ((known_accepts i (get known (components i.path)) ≡ false) × IsNodePut before.files i.path after.files)
