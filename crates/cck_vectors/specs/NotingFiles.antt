-- files in memory that count the calls on one path
use Rattle.std.specs.Prelude.{◌≡◌, ◌≢◌, ℕ, ◌+◌, ◌-◌, ◌^◌, min}
use Rattle.cck_files.specs.FileMap.{FileMap}
use Rattle.cck_files.specs.FileState.{IsQuiet, fault_count}
use Rattle.cck_path.specs.Path.{Path, components}
use Rattle.cck_vectors.specs.declared.call_cases.noting_files.NotingFiles.{NotingFiles}

-- their map, their count of faults and their quiet are those of the files that they hold
abbrev pub map_of : NotingFiles → FileMap
map_of a = a.files.files

abbrev pub faults_of : NotingFiles → ℕ
faults_of a = fault_count a.files

abbrev pub is_quiet : NotingFiles → Type 0
is_quiet a = IsQuiet a.files

-- a call came on a path: it is counted where the path is the one that is counted on, up to the greatest count of 64 bits
pub record IsNoted (before : NotingFiles) (p : Path) (after : NotingFiles) : Type 0 where
  pub same_path : after.path ≡ before.path
  pub here : p ≡ components before.path.items → after.count ≡ min (before.count + 1) (2 ^ 64 - 1)
  pub elsewhere : p ≢ components before.path.items → after.count ≡ before.count
