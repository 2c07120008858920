-- the paths at which a preprocessor looks for the headers that a source tests for
use Rattle.std.specs.Prelude.{◌≡◌, ℕ, ◌<◌, ◌⊎◌, Bool, true, false, List, [], ◌++◌, Contains, codes, get_or, length, nat_eq}
use Rattle.std.specs.List.{starts_with}
use Rattle.cck_cache_text.specs.Absent.{path_in, precompiled}
use Rattle.cck_cache_text.specs.TestName.{TestFields}
use Rattle.cck_cache_text.specs.Names.{directory_of}

-- a path, or its precompiled header, by which a test finds the header too
abbrev pub IsEither : List ℕ → List ℕ → Type 0
IsEither path either = (either ≡ path) ⊎ (either ≡ precompiled path)

-- the path of a name in a directory of a list
abbrev pub IsInList : List (List ℕ) → List ℕ → List ℕ → Type 0
IsInList directories name path = (place : ℕ) × (place < length directories) × (path ≡ path_in (get_or directories place []) name)

-- the same, or its precompiled header
abbrev pub IsEitherInList : List (List ℕ) → List ℕ → List ℕ → Type 0
IsEitherInList directories name path = (place : ℕ) × (place < length directories) × IsEither (path_in (get_or directories place []) name) path

-- such a path of a name in quotes in the directory of a file
abbrev pub IsBesideFile : List ℕ → TestFields → List ℕ → Type 0
IsBesideFile file test path = (test.is_quoted ≡ true) × IsEither (directory_of file ++ test.name) path

abbrev pub is_absolute : List ℕ → Bool
is_absolute name = starts_with nat_eq name (codes "/")

-- a path at which the header of a test is looked for
abbrev pub IsPathOfTest : List (List ℕ) → List ℕ → TestFields → List ℕ → Type 0
IsPathOfTest directories file test path =
    ((is_absolute test.name ≡ true) × IsEither test.name path)
    ⊎ ((is_absolute test.name ≡ false) × (IsBesideFile file test path ⊎ IsEitherInList directories test.name path))

-- the same of one of these tests
abbrev pub IsPathOfTests : List (List ℕ) → List ℕ → List TestFields → List ℕ → Type 0
IsPathOfTests directories file tests path = (test : TestFields) × Contains tests test × IsPathOfTest directories file test path
