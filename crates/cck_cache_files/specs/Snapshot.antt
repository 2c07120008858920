-- real files in a snapshot
use Rattle.std.specs.Prelude.{◌≡◌, ◌≤◌, ◌⊎◌, Bool, List, Contains, Some}
use Rattle.std.specs.FinMap.{get}
use Rattle.cck_files.specs.FileMap.{FileMap, FileNode}
use Rattle.cck_files.specs.FileState.{FileState, IsQuiet, fault_count, with_place}
use Rattle.cck_path.specs.Bytes.{Bytes}
use Rattle.cck_include.specs.Marks.{Mark, Name}
use Rattle.cck_path.specs.Path.{Path, components, joined, normal}
use Rattle.cck_path.specs.Text.{path_text}

-- the files with this node at a path
abbrev pub with_node : FileMap → Bytes → FileNode → FileMap
with_node files path n = with_place files (components path) n (normal (components path))

-- nothing was put, or one node
abbrev pub IsNodePut : FileMap → Bytes → FileMap → Type 0
IsNodePut before path after = (after ≡ before) ⊎ ((n : FileNode) × (after ≡ with_node before path n))

-- the same of a snapshot, of which nothing else changed
pub record IsAdded (before : FileState) (path : Bytes) (after : FileState) : Type 0 where
  pub put : IsNodePut before.files path after.files
  pub others : after ≡ record before { files = after.files }

-- files were put one after the other, each at such a path
pub data ArePut (At : Bytes → Type 0) (before : FileMap) : FileMap → Type 0 where
  none_put : {after : FileMap} → after ≡ before → ArePut At before after
  one_more : {after : FileMap} (between : FileMap) (path : Bytes) → ArePut At before between → At path → IsNodePut between path after → ArePut At before after

-- the count of faults never falls, and a quiet snapshot stays quiet and meets no fault
pub record StaysCalm (before after : FileState) : Type 0 where
  pub not_lower : fault_count before ≤ fault_count after
  pub stays_quiet : IsQuiet before → IsQuiet after
  pub stays_calm : IsQuiet before → fault_count after ≡ fault_count before

-- each node of the first files is one of the second
abbrev pub IsPart : FileMap → FileMap → Type 0
IsPart part whole = (p : Path) (n : FileNode) → get part.nodes p ≡ Some n → get whole.nodes p ≡ Some n

-- files were put into a snapshot, and none of a quiet one was replaced
pub record SnapshotGrows (At : Bytes → Type 0) (before after : FileState) : Type 0 where
  pub put : ArePut At before.files after.files
  pub kept : IsQuiet before → IsPart before.files after.files
  pub calm : StaysCalm before after

-- the same at one path
abbrev pub GrowsAt : Bytes → FileState → FileState → Type 0
GrowsAt path before after = SnapshotGrows (λ at. at ≡ path) before after

-- the path of the file of a name, in this working directory
abbrev pub named_path : Bytes → Bytes → Bytes
named_path cwd name = path_text (normal (joined (components cwd) (components name)))

-- the path is that of a name among these marks, in this working directory
pub record IsNamedFile (marks : List Mark) (cwd path : Bytes) : Type 0 where
  pub name : Bytes
  pub is_system : Bool
  pub among : Contains marks (Name name is_system)
  pub leads : path ≡ named_path cwd name
