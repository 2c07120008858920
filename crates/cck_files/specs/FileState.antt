-- files in memory, as values of the definitions
use Rattle.std.specs.Prelude.{◌≡◌, ℕ, ◌+◌, ◌-◌, ◌^◌, ◌<◌, zero, suc, ℤ, List, Bool, true, false, Option, Some, None, Result, Ok, Err, min, refl, if◌then◌else◌}
use Rattle.std.specs.Coded.{Coded, code_by, coded×, coded_list, coded_option, coded_ℕ, coded_ℤ}
use Rattle.std.specs.FinMap as finite
use Rattle.std.specs.Global.{Box}
use Rattle.cck_digest.specs.declared.error.FileError.{FileError}
use Rattle.cck_digest.specs.declared.error.FileError.TheVariants.{NotFound, OtherKind, Fault, Memory}
use Rattle.cck_path.specs.Path.{Path, components, path_cmp}
use Rattle.cck_path.specs.Timestamp.{Moment}
use Rattle.cck_path.specs.declared.metadata.FileKind.{FileKind}
use Rattle.cck_path.specs.declared.metadata.FileKind.TheVariants.{File, Folder, Other}
use Rattle.cck_path.specs.PathMap.{coded_component, coded_path_map}
use Rattle.cck_path.specs.Values.{map_values}
use Rattle.cck_files.specs.ArmedCalls.{Armed, IsUnarmed, after_call, coded_armed, fails, new_armed}
use Rattle.cck_files.specs.FileMap.{FileMap, FileNode, Nodes}
use Rattle.cck_files.specs.Node.{node_of}
use Rattle.cck_files.specs.declared.map_files.places.Place.{Place}

-- the map, the number of faults, and which of the next calls are armed to be one
pub record FileState : Type 0 where
  pub files : FileMap
  pub faults : ℕ
  pub armed : Armed

-- the counted faults: the count has 64 bits, and stays at its greatest value
abbrev pub fault_count : FileState → ℕ
fault_count s = min s.faults (2 ^ 64 - 1)

-- no call is armed, and the count could still rise
abbrev pub IsQuiet : FileState → Type 0
IsQuiet s = IsUnarmed s.armed × (fault_count s + 1 < 2 ^ 64)

-- the count after a call: higher by one where the call was armed
abbrev pub count_after : FileState → ℕ
count_after s = if fails s.armed then min (fault_count s + 1) (2 ^ 64 - 1) else fault_count s

-- the armed calls and the count of faults are those after a call
pub record IsAfterCall (before after : FileState) : Type 0 where
  pub armed : after.armed ≡ after_call before.armed
  pub count : fault_count after ≡ count_after before

-- the result is a fault
abbrev pub is_fault : {X : Type 0} → Result X FileError → Bool
is_fault (Ok x) = false
is_fault (Err NotFound) = false
is_fault (Err OtherKind) = false
is_fault (Err Fault) = true
is_fault (Err Memory) = false

-- a path with this node and this canonical path, and each other path as before
abbrev pub with_place : FileMap → Path → FileNode → Path → FileMap
with_place m p n q = record { nodes = finite.insert m.nodes p n; canonicals = finite.insert m.canonicals p q }

-- a path with neither, and each other path as before
abbrev pub without_place : FileMap → Path → FileMap
without_place m p = record { nodes = finite.remove m.nodes p; canonicals = finite.remove m.canonicals p }

-- a path with this value or none, and each other path as before
abbrev pub set_option : {X : Type 0} → finite.FinMap path_cmp X → Path → Option X → finite.FinMap path_cmp X
set_option m p None = finite.remove m p
set_option m p (Some x) = finite.insert m p x

-- a path with what another one has, and each other path as before
abbrev pub linked : FileMap → Path → Path → FileMap
linked m p target = record { nodes = set_option m.nodes p (finite.get m.nodes target); canonicals = set_option m.canonicals p (finite.get m.canonicals target) }

-- no path has anything
abbrev pub no_files : FileMap
no_files = record { nodes = finite.empty; canonicals = finite.empty }

-- no files, no fault so far, and no call armed
abbrev pub new_state : FileState
new_state = record { files = no_files; faults = 0; armed = new_armed }

-- the node and the canonical path of a place
abbrev pub node_at : Place → FileNode
node_at place = node_of place.node

abbrev pub canonical_of : Place → Path
canonical_of place = components place.canonical.items

-- those of a place in a box
abbrev pub boxed_node : Box Place → FileNode
boxed_node place = node_at place.value

abbrev pub boxed_canonical : Box Place → Path
boxed_canonical place = canonical_of place.value

-- the map of places
abbrev pub files_of : finite.FinMap path_cmp (Box Place) → FileMap
files_of places = record { nodes = map_values boxed_node places; canonicals = map_values boxed_canonical places }

-- ---- how a state is stored

abbrev pub kind_number : FileKind → ℕ
kind_number File = 0
kind_number Folder = 1
kind_number Other = 2

abbrev pub number_kind : ℕ → FileKind
number_kind zero = File
number_kind (suc zero) = Folder
number_kind (suc (suc n)) = Other

pub number_kind-kind : (k : FileKind) → number_kind (kind_number k) ≡ k
number_kind-kind File = refl
number_kind-kind Folder = refl
number_kind-kind Other = refl

abbrev pub coded_kind : Coded FileKind
coded_kind = code_by ℕ coded_ℕ kind_number number_kind number_kind-kind

abbrev pub coded_moment : Coded Moment
coded_moment = code_by (ℤ × ℕ) (coded× coded_ℤ coded_ℕ) (λ t. (t.seconds, t.nanoseconds)) (λ p. record { seconds = p.0; nanoseconds = p.1 }) (λ _. refl)

abbrev pub coded_node : Coded FileNode
coded_node = code_by ((FileKind × List ℕ) × (Option Moment × Option Moment)) (coded× (coded× coded_kind (coded_list coded_ℕ)) (coded× (coded_option coded_moment) (coded_option coded_moment)))
    (λ n. ((n.kind, n.contents), (n.modified, n.changed))) (λ p. record { kind = p.0.0; contents = p.0.1; modified = p.1.0; changed = p.1.1 }) (λ _. refl)

abbrev pub coded_files : Coded FileMap
coded_files = code_by (Nodes × finite.FinMap path_cmp Path) (coded× (coded_path_map coded_node) (coded_path_map (coded_list coded_component)))
    (λ m. (m.nodes, m.canonicals)) (λ p. record { nodes = p.0; canonicals = p.1 }) (λ _. refl)

abbrev pub coded_state : Coded FileState
coded_state = code_by (FileMap × (ℕ × Armed)) (coded× coded_files (coded× coded_ℕ coded_armed)) (λ s. (s.files, (s.faults, s.armed))) (λ p. record { files = p.0; faults = p.1.0; armed = p.1.1 }) (λ _. refl)
