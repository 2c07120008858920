-- which files a preprocessed text names, and whether they are recorded
use Rattle.std.specs.Prelude.{◌≡◌, ◌≢◌, ◌⊎◌, List, [], ◌∷◌, ◌++◌, Bool, true, false, Some, None, Ok, IfSome, Contains, AllPairs, length}
use Rattle.std.specs.Option.{option_and}
use Rattle.std.specs.declared.cmp.Ordering.TheVariants.{Less}
use Rattle.cck_files.specs.FileMap.{FileNode, file_at, folder_at}
use Rattle.cck_include.specs.Gathered.{is_before}
use Rattle.cck_include.specs.Include.{Include}
use Rattle.cck_include.specs.Recorded.{recorded}
use Rattle.cck_include.specs.Marks.{Mark, Name, Refusal, Malformed, Marks}
use Rattle.cck_path.specs.Bytes.{Bytes}
use Rattle.cck_path.specs.Path.{Path, components, joined, normal, path_cmp}
use Rattle.cck_path.specs.Text.{join_path, path_text}
use Rattle.cck_hasher.specs.Call.{Call}
use Rattle.cck_hasher.specs.World.{World, setting}

-- the verdict on a text: it is recorded, or not, or has a malformed marker
pub data Verdict : Type 0 where
  Accepted : Verdict
  NotAccepted : Verdict
  Errs : Verdict

-- the input as it is written, seen from the working directory
abbrev pub input_path : {V : Type 0} → Call V → Bytes
input_path c = join_path c.request.cwd c.request.arguments.input

-- the path that a name means
abbrev pub meant_path : {V : Type 0} → Call V → Bytes → Path
meant_path c name = normal (joined (components c.request.cwd) (components name))

module _ {V : Type 0} (w : World V) where
  -- The file of a name is looked at: the name is not empty and no `<..>`, it is not of a system header where these are skipped, and its path
  -- is not the input's.
  pub record IsLooked (c : Call V) (name : Bytes) (system : Bool) : Type 0 where
    pub some : name ≢ []
    pub not_angled : (inner : Bytes) → name ≢ 60 ∷ inner ++ 62 ∷ []
    pub wanted : w.config.skip_system_headers ≡ true → system ≡ false
    pub other : meant_path c name ≢ components (input_path c)

  -- the text names this path
  pub record IsNamed (c : Call V) (text : Bytes) (p : Path) : Type 0 where
    pub name : Bytes
    pub system : Bool
    pub marks : List Mark
    pub are : Marks true text marks
    pub present : Contains marks (Name name system)
    pub looked : IsLooked c name system
    pub is : p ≡ meant_path c name

  -- both times of the file, where it has them, are before the call time
  abbrev pub IsOld : Call V → FileNode → Type 0
  IsOld c n = IfSome n.modified (λ t. is_before t c.moment ≡ true) × IfSome n.changed (λ t. is_before t c.moment ≡ true)

  -- a directory, or an old regular file that has a recorded digest
  abbrev pub IsGood : Call V → Path → Type 0
  IsGood c p = (folder_at c.files p ≡ Ok tt) ⊎ ((n : FileNode) × (file_at c.files p ≡ Ok n) × IsOld c n × (recorded (setting w c) n ≢ None))

  -- the first of these decides: a mark of a refused text, a malformed marker, or a path that isn't good
  abbrev pub MarksDecide : Call V → List Mark → Verdict → Type 0
  MarksDecide c [] v = v ≡ Accepted
  MarksDecide c (Refusal ∷ marks) v = v ≡ NotAccepted
  MarksDecide c (Malformed ∷ marks) v = v ≡ Errs
  MarksDecide c (Name name system ∷ marks) v =
      ((IsLooked c name system → IsGood c (meant_path c name)) × MarksDecide c marks v)
      ⊎ (IsLooked c name system × (IsGood c (meant_path c name) → ⊥) × (v ≡ NotAccepted))

  -- the verdict on a text
  abbrev pub Walk : Call V → Bytes → Verdict → Type 0
  Walk c text v = (marks : List Mark) × Marks true text marks × MarksDecide c marks v

  -- What is recorded of a regular file that the text names: its path, its recorded digest, its size and its times, if it has both.
  pub record IsRecorded (c : Call V) (text : Bytes) (i : Include) : Type 0 where
    pub path : Path
    pub named : IsNamed c text path
    pub node : FileNode
    pub file : file_at c.files path ≡ Ok node
    pub written : i.path ≡ path_text path
    pub digest : recorded (setting w c) node ≡ Some i.digest
    pub size : i.size ≡ length node.contents
    pub modified : i.modified ≡ option_and node.changed node.modified
    pub changed : i.changed ≡ option_and node.modified node.changed

  -- what is recorded of all regular files that an accepted text names, each once, in path order
  pub record AreRecorded (c : Call V) (text : Bytes) (includes : List Include) : Type 0 where
    pub ordered : AllPairs (λ i j. path_cmp (components i.path) (components j.path) ≡ Less) includes
    pub each : (i : Include) → Contains includes i → IsRecorded c text i
    pub all : (p : Path) (n : FileNode) → IsNamed c text p → file_at c.files p ≡ Ok n → (i : Include) × Contains includes i × (i.path ≡ path_text p)
