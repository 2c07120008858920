-- the paths at which a preprocessor looks for the headers that a text includes
use Rattle.std.specs.Prelude.{◌≡◌, ℕ, ◌⊎◌, Bool, true, false, List, ◌++◌, IsTrue}
use Rattle.cck_include.specs.Marks.{Mark}
use Rattle.cck_cache_text.specs.Included.{IsHeader}
use Rattle.cck_cache_text.specs.Names.{is_named, is_place}
use Rattle.cck_cache_text.specs.TestedPaths.{IsInList, is_absolute}

-- the path of a name in the working directory or in the directory of a file of the text
abbrev pub IsInPlace : (List ℕ → Bool) → List ℕ → List ℕ → Type 0
IsInPlace is_place_in name path = (directory : List ℕ) × IsTrue (is_place_in directory) × (path ≡ directory ++ name)

-- a path at which a header is looked for: its name, if that is absolute; else in each directory of the list, and a name in quotes in each place too
abbrev pub IsPathOfHeader : (List ℕ → Bool) → List (List ℕ) → List ℕ → Bool → List ℕ → Type 0
IsPathOfHeader is_place_in directories name is_quoted path =
    ((is_absolute name ≡ true) × (path ≡ name))
    ⊎ ((is_absolute name ≡ false) × (((is_quoted ≡ true) × IsInPlace is_place_in name path) ⊎ IsInList directories name path))

-- the same, and the text does not name the path
abbrev pub IsUnnamedPath : (List ℕ → Bool) → (List ℕ → Bool) → List (List ℕ) → List ℕ → Bool → List ℕ → Type 0
IsUnnamedPath is_named_in is_place_in directories name is_quoted path = (is_named_in path ≡ false) × IsPathOfHeader is_place_in directories name is_quoted path

-- a path at which a header of the text or of the arguments is looked for, and which the text does not name
abbrev pub IsLookedAt : List Mark → List ℕ → List (List ℕ) → List (List ℕ) → List ℕ → Type 0
IsLookedAt marks text arguments directories path =
    (name : List ℕ) × (is_quoted : Bool) × IsHeader text arguments is_quoted name × IsUnnamedPath (is_named marks) (is_place marks) directories name is_quoted path
