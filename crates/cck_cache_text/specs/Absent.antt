-- the paths at which a header that a text names would have been found earlier
use Rattle.std.specs.Prelude.{◌≡◌, ℕ, Bool, ◌<◌, ◌⊎◌, true, false, List, [], ◌++◌, length, get_or, Contains, codes, IsTrue, Option, Some, None, if◌then◌else◌, nat_eq}
use Rattle.std.specs.List.{ends_with}
use Rattle.std.specs.BTreeSet.{BTreeSet}
use Rattle.std.specs.Global.{Vec}
use Rattle.cck_include.specs.Marks.{Mark}
use Rattle.cck_cache_text.specs.Included.{IsHeader}
use Rattle.cck_cache_text.specs.Names.{is_named, is_place, is_system_name}
use Rattle.cck_cache_text.specs.SearchList.{SearchFields}
use Rattle.cck_cache_text.specs.Sets.{Adds, IsSetOf}

-- what a compiler writes between a directory of its list and the name of a file in it: a `/`, unless the directory ends in one
abbrev pub separator : List ℕ → List ℕ
separator directory = if ends_with nat_eq directory (codes "/") then [] else codes "/"

-- a path in a directory
abbrev pub path_in : List ℕ → List ℕ → List ℕ
path_in directory name = directory ++ (separator directory ++ name)

-- the precompiled header of a path
abbrev pub precompiled : List ℕ → List ℕ
precompiled path = path ++ codes ".gch"

-- a path at which the rest of a name is looked for before the directory at this place: in the directory of a file of the text, if that is the name of a
-- header in quotes; or in an earlier directory of the list
abbrev pub IsEarlier : (List ℕ → Bool) → (List ℕ → Type 0) → List (List ℕ) → ℕ → List ℕ → List ℕ → Type 0
IsEarlier is_place_in IsQuoted directories place rest path =
    (IsQuoted rest × ((directory : List ℕ) × IsTrue (is_place_in directory) × (path ≡ directory ++ rest)))
    ⊎ ((earlier : ℕ) × (earlier < place) × (path ≡ path_in (get_or directories earlier []) rest))

-- the precompiled header of a path, or the path itself unless the text names it
abbrev pub IsBeside : (List ℕ → Bool) → List ℕ → List ℕ → Type 0
IsBeside is_named_in path absent = (absent ≡ precompiled path) ⊎ ((absent ≡ path) × (is_named_in path ≡ false))

-- a path that is looked at before a name is found in the directory at this place
abbrev pub IsBeforeDirectory : (List ℕ → Bool) → (List ℕ → Bool) → (List ℕ → Type 0) → List (List ℕ) → List ℕ → ℕ → List ℕ → Type 0
IsBeforeDirectory is_place_in is_named_in IsQuoted directories name place absent =
    (rest : List ℕ) × (path : List ℕ) × (path_in (get_or directories place []) rest ≡ name) × IsEarlier is_place_in IsQuoted directories place rest path × IsBeside is_named_in path absent

-- a path that is looked at for one name
abbrev pub IsForName : (List ℕ → Bool) → (List ℕ → Bool) → (List ℕ → Type 0) → List (List ℕ) → List ℕ → List ℕ → Type 0
IsForName is_place_in is_named_in IsQuoted directories name absent =
    (absent ≡ precompiled name) ⊎ ((place : ℕ) × (place < length directories) × IsBeforeDirectory is_place_in is_named_in IsQuoted directories name place absent)

-- the name is of a file in the directory at this place of a list
abbrev pub IsInDirectory : List (List ℕ) → List ℕ → ℕ → Type 0
IsInDirectory directories name place = (rest : List ℕ) × (path_in (get_or directories place []) rest ≡ name)

-- the name is of a file in a directory of the list
abbrev pub IsListed : List (List ℕ) → List ℕ → Type 0
IsListed directories name = (place : ℕ) × (place < length directories) × IsInDirectory directories name place

-- the header that gcc includes before the input without a directive, and passes over without a message where there is none
abbrev pub implicit_header : List ℕ
implicit_header = codes "stdc-predef.h"

-- a path that is looked at for it, in a directory of the list
abbrev pub IsForImplicit : (List ℕ → Bool) → List (List ℕ) → List ℕ → Type 0
IsForImplicit is_named_in directories absent =
    (place : ℕ) × (place < length directories) × IsBeside is_named_in (path_in (get_or directories place []) implicit_header) absent

-- the paths that must stay absent, by the marks of a text, the headers that it and these arguments include, and the list of directories
abbrev pub IsAbsentName : List Mark → List ℕ → List (List ℕ) → SearchFields → List ℕ → Type 0
IsAbsentName marks text arguments search absent =
    Contains search.missing absent
    ⊎ (IsForImplicit (is_named marks) search.directories absent
    ⊎ ((name : List ℕ) × IsTrue (is_named marks name) × IsForName (is_place marks) (is_named marks) (IsHeader text arguments true) search.directories name absent))

-- exactly these paths; or none, where a system header is in no directory of the list
abbrev pub AreAbsentNames : List Mark → List ℕ → List (List ℕ) → SearchFields → Option (BTreeSet (Vec ℕ)) → Type 0
AreAbsentNames marks text arguments search None = (name : List ℕ) × IsTrue (is_system_name marks name) × (IsListed search.directories name → ⊥)
AreAbsentNames marks text arguments search (Some paths) =
    ((name : List ℕ) → IsTrue (is_system_name marks name) → IsListed search.directories name) × IsSetOf (IsAbsentName marks text arguments search) paths

-- the same for a set of names, as these paths are added
abbrev pub AreAdded : (List ℕ → Bool) → (List ℕ → Bool) → (List ℕ → Bool) → (List ℕ → Type 0) → List (List ℕ) → BTreeSet (Vec ℕ) → BTreeSet (Vec ℕ) → Bool → Type 0
AreAdded is_place_in is_named_in is_system_in IsQuoted directories old new false = (name : List ℕ) × IsTrue (is_system_in name) × IsTrue (is_named_in name) × (IsListed directories name → ⊥)
AreAdded is_place_in is_named_in is_system_in IsQuoted directories old new true =
    ((name : List ℕ) → IsTrue (is_named_in name) → IsTrue (is_system_in name) → IsListed directories name)
    × Adds (λ absent. (name : List ℕ) × IsTrue (is_named_in name) × IsForName is_place_in is_named_in IsQuoted directories name absent) old new
