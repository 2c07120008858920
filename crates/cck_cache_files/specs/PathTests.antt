-- tests of paths that were made
use Rattle.std.specs.Prelude.{◌≡◌, List, [], ◌∷◌, ◌++◌, Option, Some, None, IsUtf8}
use Rattle.cck_cache_rules.specs.PathTest.{Test, Absent, File, Directory, Searched, Plain, Real}
use Rattle.cck_cache_files.specs.Searched.{IsFirstSame, IsPlaceOf}
use Rattle.cck_cache_files.specs.declared.identity.Identity.{Identity}

-- A test held, after and before which these identities were found of the directories that are searched. One of such a directory holds only where
-- the first that is the same has its place. Only a path that is UTF-8 is looked at.
abbrev pub Holds : List (Option Identity) → Test → List (Option Identity) → Type 0
Holds before (Absent path) after = (after ≡ before) × IsUtf8 path
Holds before (File path) after = (after ≡ before) × IsUtf8 path
Holds before (Directory path) after = (after ≡ before) × IsUtf8 path
Holds before (Plain path) after = (after ≡ before) × IsUtf8 path
Holds before (Real path real) after = (after ≡ before) × IsUtf8 path
Holds before (Searched path place) after = (identity : Identity) × (after ≡ before ++ Some identity ∷ []) × IsFirstSame after identity place × IsUtf8 path

-- a test failed after these identities were found; one of a directory that is searched only where the first that is the same has another place
abbrev pub Fails : List (Option Identity) → Test → Type 0
Fails before (Absent path) = Unit {0}
Fails before (File path) = Unit {0}
Fails before (Directory path) = Unit {0}
Fails before (Plain path) = Unit {0}
Fails before (Real path real) = Unit {0}
Fails before (Searched path place) = (identity : Option Identity) × (IsPlaceOf (before ++ identity ∷ []) identity (Some place) → ⊥)

-- these tests held, one after the other
pub data AllHold : List Test → List (Option Identity) → Type 0 where
  none_made : AllHold [] []
  one_more : {all tests : List Test} {before after : List (Option Identity)} (test : Test) → AllHold tests before → Holds before test after → all ≡ tests ++ test ∷ [] → AllHold all after

-- all tests held; or this one failed, and those before it held
abbrev pub IsFirstFailing : List Test → Option Test → Type 0
IsFirstFailing tests None = (found : List (Option Identity)) × AllHold tests found
IsFirstFailing tests (Some test) =
    (before after : List Test) × (found : List (Option Identity)) × (tests ≡ before ++ test ∷ after) × AllHold before found × Fails found test
