-- the tests of the directories that a preprocessor searches
use Rattle.std.specs.Prelude.{◌≡◌, ◌⊎◌, ℕ, Bool, true, false, ◌==◌, ◌&&◌, ◌||◌, if◌then◌else◌, nat_le, nat_lt, List, [], ◌∷◌, ◌++◌, Option, Some, None, IsUtf8, length}
use Rattle.cck_cache_rules.specs.PathTest.{Test, Searched}
use Rattle.cck_cache_text.specs.SearchList.{SearchFields}
use Rattle.cck_cache_files.specs.Searched.{IsFirstSame, IsPlaceOf}
use Rattle.cck_cache_files.specs.declared.identity.Identity.{Identity}
use Rattle.cck_path.specs.Bytes.{Bytes}
use Rattle.cck_path.specs.Text.{join_path}

-- A compiler's list is right for a directory at this place of the listed ones and then the duplicates, where the first directory that is the same has
-- this place: for a listed one its own, or that of one for quotes alone if it is none of these; for a duplicate that of a listed one.
abbrev pub is_expected : SearchFields → ℕ → ℕ → Bool
is_expected search place first =
    if nat_lt place (length search.directories) then (first == place || (nat_le search.quoted place && nat_lt first search.quoted)) else nat_lt first (length search.directories)

-- a directory was found at this name, for which the list is right; a directory is found only at a path that is UTF-8
pub record IsRight (directory : Bytes) (search : SearchFields) (name : Bytes) (before : List (Option Identity)) (tests : List Test) (after : List (Option Identity)) (all : List Test) : Type 0 where
  pub identity : Identity
  pub first : ℕ
  pub found : after ≡ before ++ Some identity ∷ []
  pub is_first : IsFirstSame after identity first
  pub text : IsUtf8 (join_path directory name)
  pub expected : is_expected search (length tests) first ≡ true
  pub test : all ≡ tests ++ Searched (join_path directory name) first ∷ []

-- the list is not right for what was found at the next name
pub record IsWrong (search : SearchFields) (before : List (Option Identity)) (tests : List Test) : Type 0 where
  pub identity : Option Identity
  pub first : Option ℕ
  pub place_is : IsPlaceOf (before ++ identity ∷ []) identity first
  pub unexpected : (place : ℕ) → first ≡ Some place → is_expected search (length tests) place ≡ false

-- directories were found at these names, in order, for which the list is right, after others were found; these tests are of all
pub data AddsRight (directory : Bytes) (search : SearchFields) (found : List (Option Identity)) (tests : List Test) : List Bytes → List (Option Identity) → List Test → Type 0 where
  none_added : {after : List (Option Identity)} {all : List Test} → after ≡ found → all ≡ tests → AddsRight directory search found tests [] after all
  one_added : {names known : List Bytes} {between after : List (Option Identity)} {some all : List Test} (name : Bytes) → AddsRight directory search found tests known between some
      → IsRight directory search name between some after all → names ≡ known ++ name ∷ [] → AddsRight directory search found tests names after all

-- the list is right for the first of these names, and for the next one it is not
pub record AddsWrong (directory : Bytes) (search : SearchFields) (names : List Bytes) (found : List (Option Identity)) (tests : List Test) : Type 0 where
  pub known : List Bytes
  pub name : Bytes
  pub others : List Bytes
  pub between : List (Option Identity)
  pub some : List Test
  pub names_are : names ≡ known ++ name ∷ others
  pub right : AddsRight directory search found tests known between some
  pub wrong : IsWrong search between some

abbrev pub AddsSearched : Bytes → SearchFields → List Bytes → List (Option Identity) → List Test → List (Option Identity) → List Test → Bool → Type 0
AddsSearched directory search names found tests after all true = AddsRight directory search found tests names after all
AddsSearched directory search names found tests after all false = AddsWrong directory search names found tests

-- the tests of the directories of a list, for which it is right
pub record AreSearched (directory : Bytes) (search : SearchFields) (tests : List Test) : Type 0 where
  pub between : List (Option Identity)
  pub after : List (Option Identity)
  pub listed : List Test
  pub are_listed : AddsRight directory search [] [] search.directories between listed
  pub are_duplicates : AddsRight directory search between listed search.duplicates after tests

-- the list is right for the listed directories, and not for a duplicate
pub record HasWrongDuplicate (directory : Bytes) (search : SearchFields) : Type 0 where
  pub between : List (Option Identity)
  pub listed : List Test
  pub are_listed : AddsRight directory search [] [] search.directories between listed
  pub wrong : AddsWrong directory search search.duplicates between listed

-- the list is not right for one of its directories
abbrev pub HasDoubtfulDirectory : Bytes → SearchFields → Type 0
HasDoubtfulDirectory directory search = AddsWrong directory search search.directories [] [] ⊎ HasWrongDuplicate directory search

abbrev pub AreSearchedTests : Bytes → SearchFields → Option (List Test) → Type 0
AreSearchedTests directory search None = HasDoubtfulDirectory directory search
AreSearchedTests directory search (Some tests) = AreSearched directory search tests
