-- tests of the links on the way to files
use Rattle.std.specs.Prelude.{◌≡◌, ◌⊎◌, Bool, true, false, List, [], Contains}
use Rattle.cck_cache_rules.specs.PathTest.{Test, Absent, Plain, Real, tests_of}
use Rattle.cck_cache_text.specs.Names.{directory_of}
use Rattle.cck_cache_files.specs.declared.real_paths.LinkTests.{LinkTests}
use Rattle.cck_path.specs.Bytes.{Bytes}
use Rattle.cck_path.specs.Text.{join_path}

-- it is tested where a path leads
abbrev pub HasReal : List Test → Bytes → Type 0
HasReal real path = (leads : Bytes) × Contains real (Real path leads)

-- A file is no link, and it is tested where its directory leads; or it is tested where the path itself leads.
abbrev pub IsPlaced : LinkTests → Bytes → Type 0
IsPlaced tests path = (Contains (tests_of tests.plain.items) (Plain path) × HasReal (tests_of tests.real.items) (directory_of path)) ⊎ HasReal (tests_of tests.real.items) path

-- a test of where a path leads, or its directory
abbrev pub IsRealOf : Bytes → Test → Type 0
IsRealOf path test = (leads : Bytes) × ((test ≡ Real path leads) ⊎ (test ≡ Real (directory_of path) leads))

-- the path of one of these names, which are relative to a directory
abbrev pub IsPathOf : Bytes → (Bytes → Type 0) → Bytes → Type 0
IsPathOf directory IsName path = (name : Bytes) × IsName name × (path ≡ join_path directory name)

-- the links on the way to each of these paths are tested, and no others
pub record ArePlaced (IsPath : Bytes → Type 0) (tests : LinkTests) : Type 0 where
  pub each : (path : Bytes) → IsPath path → IsPlaced tests path
  pub only_plain : (test : Test) → Contains (tests_of tests.plain.items) test → (path : Bytes) × IsPath path × (test ≡ Plain path)
  pub only_real : (test : Test) → Contains (tests_of tests.real.items) test → (path : Bytes) × IsPath path × IsRealOf path test

-- a list has the tests that it had, one of where this path leads, and no other
pub record GainsReal (old : List Test) (path : Bytes) (new : List Test) : Type 0 where
  pub kept : (test : Test) → Contains old test → Contains new test
  pub gained : HasReal new path
  pub only : (test : Test) → Contains new test → Contains old test ⊎ ((leads : Bytes) × (test ≡ Real path leads))

-- the tests are those that they were, those of the links on the way to this path, and no others
pub record GainsPlace (old : LinkTests) (path : Bytes) (new : LinkTests) : Type 0 where
  pub kept_plain : (test : Test) → Contains (tests_of old.plain.items) test → Contains (tests_of new.plain.items) test
  pub kept_real : (test : Test) → Contains (tests_of old.real.items) test → Contains (tests_of new.real.items) test
  pub gained : IsPlaced new path
  pub only_plain : (test : Test) → Contains (tests_of new.plain.items) test → Contains (tests_of old.plain.items) test ⊎ (test ≡ Plain path)
  pub only_real : (test : Test) → Contains (tests_of new.real.items) test → Contains (tests_of old.real.items) test ⊎ IsRealOf path test

-- a list has the tests that it had; and if nothing is at a path by this test, one of where the directory of the path leads, and no other
pub record GainsLink (old : List Test) (absent : Test) (new : List Test) : Type 0 where
  pub kept : (test : Test) → Contains old test → Contains new test
  pub gained : (path : Bytes) → absent ≡ Absent path → HasReal new (directory_of path)
  pub only : (test : Test) → Contains new test → Contains old test ⊎ ((path : Bytes) × (leads : Bytes) × (absent ≡ Absent path) × (test ≡ Real (directory_of path) leads))

-- of each path at which nothing is by these tests, it is tested where its directory leads, and no others are
pub record AreAbsentLinks (tests links : List Test) : Type 0 where
  pub each : (path : Bytes) → Contains tests (Absent path) → HasReal links (directory_of path)
  pub only : (test : Test) → Contains links test → (path : Bytes) × (leads : Bytes) × Contains tests (Absent path) × (test ≡ Real (directory_of path) leads)

-- the same by a compiler that knows a directory by its inode; by one that renames headers there is none
abbrev pub AreLinksOf : Bool → List Test → List Test → Type 0
AreLinksOf true tests links = links ≡ []
AreLinksOf false tests links = AreAbsentLinks tests links

abbrev pub HasAbsent : List Test → Type 0
HasAbsent tests = (path : Bytes) × Contains tests (Absent path)
