-- the files and variables after the first lines of a script
use Rattle.std.specs.Prelude.{◌≡◌, ℕ, nat_lt, length, pos, List, [], ◌∷◌, ◌++◌, map, codes, is_some, Bool, true, false, if◌then◌else◌, Option, Some, None}
use Rattle.std.specs.BTreeMap.{BTreeMap, get}
use Rattle.std.specs.Cmp.Lexicographic.{slice_cmp}
use Rattle.std.specs.FinMap as finite
use Rattle.std.specs.Global.{Vec}
use Rattle.std.specs.List.{list_any, position_or_len}
use Rattle.std.specs.Option.{option_map}
use Rattle.std.specs.Ordering.{eq_by_cmp, nat_cmp}
use Rattle.std.specs.declared.cmp.Ordering.{Ordering}
use Rattle.std.specs.Str.{bytes_eq}
use Rattle.cck_files.specs.ArmedCalls.{IsUnarmed}
use Rattle.cck_files.specs.FileMap.{FileMap, FileNode}
use Rattle.cck_path.specs.Bytes.{Bytes, variables_of}
use Rattle.cck_path.specs.Path.{Path, components, normal, path_cmp}
use Rattle.cck_path.specs.Timestamp.{Moment}
use Rattle.cck_path.specs.Variables.{Variable as NamedValue}
use Rattle.cck_path.specs.declared.metadata.FileKind.TheVariants as kind
use Rattle.cck_script.specs.Lines.{Line, File, Folder, Gone, Variable, Clear}
use Rattle.cck_script.specs.Lines.{first_or}
use Rattle.cck_script.specs.declared.surroundings.Surroundings.{Surroundings}

-- ---- the node at a path. Lines are given from the last to the first

-- a regular file with these contents and times
abbrev pub file_node : Bytes → Option Moment → Option Moment → FileNode
file_node contents modified changed = record { kind = kind.File; contents = contents; modified = modified; changed = changed }

-- 1970-01-01T00:00:00Z
abbrev pub epoch : Moment
epoch = record { seconds = pos 0; nanoseconds = 0 }

-- the executable, before any line
abbrev pub executable : FileNode
executable = file_node (codes "cc") (Some epoch) (Some epoch)

-- its path
abbrev pub executable_path : Bytes
executable_path = codes "/usr/bin/cc"

-- the directory in which calls are made
abbrev pub working_directory : Bytes
working_directory = codes "/w"

-- the node at a path before any line
abbrev pub element_is_first : Path → Option FileNode
element_is_first p = if eq_by_cmp path_cmp p (components executable_path) then Some executable else None

-- the path that a line names, and the node there after the line
abbrev pub place_of_command : Line → Option (Bytes × Option FileNode)
place_of_command (File path modified changed contents) = Some (path, Some (file_node contents modified changed))
place_of_command (Folder path) = Some (path, Some (record { kind = kind.Folder; contents = []; modified = None; changed = None }))
place_of_command (Gone path) = Some (path, None)
place_of_command _ = None

abbrev pub if_names : Path → Option (Bytes × Option FileNode) → Option (Option FileNode)
if_names p None = None
if_names p (Some place) = if eq_by_cmp path_cmp p (components place.0) then Some place.1 else None

-- the node at a path after these lines: what the last line says that names the path, or else what was there before any line
unfoldable pub present : List Line → Path → Option FileNode
present lines p = first_or (element_is_first p) (λ line. if_names p (place_of_command line)) lines

-- these are the files after these lines, each of which is its own canonical path, without its `.` and `..`
pub record AreFiles (lines : List Line) (files : FileMap) : Type 0 where
  pub nodes : (p : Path) → finite.get files.nodes p ≡ present lines p
  pub canonicals : (p : Path) → finite.get files.canonicals p ≡ option_map (λ _. normal p) (present lines p)

-- ---- variables. Lines are given from the last to the first

abbrev pub is_clear : Line → Bool
is_clear Clear = true
is_clear _ = false

-- the lines since the last `clear`
abbrev pub since_clear : List Line → List Line
since_clear [] = []
since_clear (line ∷ lines) = if is_clear line then [] else line ∷ since_clear lines

-- the variable that a line sets
abbrev pub variable_of_command : Line → Option NamedValue
variable_of_command (Variable name value) = Some (name, value)
variable_of_command _ = None

abbrev pub if_same : Bytes → Option NamedValue → Option Bytes
if_same name None = None
if_same name (Some set) = if bytes_eq set.0 name then Some set.1 else None

-- a line sets a variable of this name
abbrev pub sets : Bytes → Line → Bool
sets name line = is_some (if_same name (variable_of_command line))

-- the name that a line sets, if no earlier line sets it
abbrev pub new_name : Option NamedValue → List Line → List Bytes
new_name None earlier = []
new_name (Some set) earlier = if list_any (sets set.0) earlier then [] else set.0 ∷ []

-- the names that these lines set, each where it was set first
abbrev pub names : List Line → List Bytes
names [] = []
names (line ∷ earlier) = names earlier ++ new_name (variable_of_command line) earlier

-- the value of a variable: that of the last line that sets it
abbrev pub value_of : List Line → Bytes → Bytes
value_of lines name = first_or [] (λ line. if_same name (variable_of_command line)) lines

abbrev pub set_by : List Line → List NamedValue
set_by lines = map (λ name. (name, value_of lines name)) (names lines)

-- the variables after these lines: what was set since the last `clear`
unfoldable pub variables : List Line → List NamedValue
variables lines = set_by (since_clear lines)

-- ---- what the program has of them

-- names are ordered by their bytes
abbrev pub name_cmp : Vec ℕ → Vec ℕ → Ordering
name_cmp a b = slice_cmp nat_cmp a.items b.items

-- this place, if it is one of n places
abbrev pub if_below : ℕ → ℕ → Option ℕ
if_below n place = if nat_lt place n then Some place else None

-- the place of the first variable of this name
abbrev pub variable_place : Bytes → List (Vec ℕ × Vec ℕ) → Option ℕ
variable_place name vs = if_below (length vs) (position_or_len (bytes_eq name) (map (λ v. v.0.items) vs))

-- these are the places of the variables by their names
abbrev pub ArePlacesOf : List (Vec ℕ × Vec ℕ) → BTreeMap (Vec ℕ) ℕ → Type 0
ArePlacesOf vs places = (name : Vec ℕ) → get name_cmp places name ≡ variable_place name.items vs

-- the files and variables are those after these lines, the places are those of the variables, and no call on the files is armed to fail
pub record AreAfter (lines : List Line) (after : Surroundings) : Type 0 where
  pub files : AreFiles lines after.files.files
  pub no_faults : after.files.faults ≡ 0
  pub unarmed : IsUnarmed after.files.armed
  pub variables_are : variables_of after.variables.items ≡ variables lines
  pub places_are : ArePlacesOf after.variables.items after.places

-- variables after one is set: in the place of the first of its name, or else after the others
abbrev pub with_variable : Bytes → Bytes → List NamedValue → List NamedValue
with_variable name value [] = (name, value) ∷ []
with_variable name value (v ∷ vs) = if bytes_eq v.0 name then (v.0, value) ∷ vs else v ∷ with_variable name value vs
