-- what is tested of a path, and the bytes of a test in an entry file
use Rattle.std.specs.Prelude.{ℕ, List, [], ◌++◌, codes, map}
use Rattle.cck_digest.specs.Frames.{length_bytes}
use Rattle.cck_cache_rules.specs.Frames.{frame_before}
use Rattle.cck_cache_rules.specs.declared.path_test.PathTest.{PathTest}
use Rattle.cck_cache_rules.specs.declared.path_test.PathTest.TheVariants as program

-- Nothing is at the path; a regular file is at it, links followed; a directory is at it, and no link; it is the path of a directory that is
-- searched, the same one as that at this place of those that are; a regular file is at it, and no link; or it leads to this path, links followed.
pub data Test : Type 0 where
  Absent : List ℕ → Test
  File : List ℕ → Test
  Directory : List ℕ → Test
  Searched : List ℕ → ℕ → Test
  Plain : List ℕ → Test
  Real : List ℕ → List ℕ → Test

abbrev pub test_of : PathTest → Test
test_of (program.Absent path) = Absent path.items
test_of (program.File path) = File path.items
test_of (program.Directory path) = Directory path.items
test_of (program.Searched path place) = Searched path.items place
test_of (program.Plain path) = Plain path.items
test_of (program.Real path real) = Real path.items real.items

abbrev pub tests_of : List PathTest → List Test
tests_of tests = map test_of tests

abbrev pub test_path : Test → List ℕ
test_path (Absent path) = path
test_path (File path) = path
test_path (Directory path) = path
test_path (Searched path place) = path
test_path (Plain path) = path
test_path (Real path real) = path

-- where the path leads, and nothing where that is not tested
abbrev pub test_real : Test → List ℕ
test_real (Absent path) = []
test_real (File path) = []
test_real (Directory path) = []
test_real (Searched path place) = []
test_real (Plain path) = []
test_real (Real path real) = real

-- the same test of another path, which leads to this one if that is tested
abbrev pub with_path : Test → List ℕ → List ℕ → Test
with_path (Absent path) other leads = Absent other
with_path (File path) other leads = File other
with_path (Directory path) other leads = Directory other
with_path (Searched path place) other leads = Searched other place
with_path (Plain path) other leads = Plain other
with_path (Real path real) other leads = Real other leads

-- the bytes of the test of a directory that is searched, by its place and its path
abbrev pub searched_bytes : ℕ × List ℕ → List ℕ
searched_bytes p = codes "searched " ++ (length_bytes p.0 ++ p.1)

-- the bytes of the test of where a path leads, by the real path and the path
abbrev pub real_bytes : List ℕ × List ℕ → List ℕ
real_bytes p = codes "real " ++ frame_before p

-- a word, for a directory that is searched the 8 bytes of its place, for where a path leads a frame of the real path, and the path
abbrev pub test_bytes : Test → List ℕ
test_bytes (Absent path) = codes "absent " ++ path
test_bytes (File path) = codes "file " ++ path
test_bytes (Directory path) = codes "directory " ++ path
test_bytes (Searched path place) = searched_bytes (place, path)
test_bytes (Plain path) = codes "plain " ++ path
test_bytes (Real path real) = real_bytes (real, path)
