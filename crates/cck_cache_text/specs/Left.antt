-- the directories that names leave by `..`
use Rattle.std.specs.Prelude.{◌≡◌, ◌<◌, ℕ, List, Some, IsTrue, codes, drop, slice_get, take}
use Rattle.cck_digest.specs.TimeMacros.{Has}
use Rattle.cck_include.specs.Marks.{Mark}
use Rattle.cck_path.specs.Text.{join_path}
use Rattle.cck_cache_text.specs.Names.{is_named}

-- a slash at this place ends a directory's path, which is not empty, and a `..` comes after it
pub record IsLeftAt (path : List ℕ) (place : ℕ) : Type 0 where
  pub inside : 0 < place
  pub slash : slice_get path place ≡ Some 47
  pub parent : Has (drop place path) (codes "/../")

-- a directory on the way of a path up to its last `..`
abbrev pub IsLeftOn : List ℕ → List ℕ → Type 0
IsLeftOn path front = (place : ℕ) × IsLeftAt path place × (front ≡ take place path)

-- the same of a name among these marks, joined to a directory
abbrev pub IsLeft : List ℕ → List Mark → List ℕ → Type 0
IsLeft directory marks front = (name : List ℕ) × IsTrue (is_named marks name) × IsLeftOn (join_path directory name) front
