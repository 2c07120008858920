-- direct children
use Rattle.std.specs.Prelude.{◌≡◌, ℕ, List, [], ◌∷◌, ◌++◌, Bool, count_by, if◌then◌else◌}
use Rattle.std.specs.Cmp.Lexicographic.{slice_cmp}
use Rattle.std.specs.FinMap.{FinMap, contains_key}
use Rattle.std.specs.List.{AllByRecursion}
use Rattle.std.specs.Ordering.{eq_by_cmp, nat_cmp}
use Rattle.cck_path.specs.Path.{IsName, Name, Path, path_cmp}

-- the names are the same
abbrev pub is_same_name : List ℕ → List ℕ → Bool
is_same_name n x = eq_by_cmp (slice_cmp nat_cmp) n x

-- these are the last names of a path's direct children in a map, each once
pub record HasChildNames {V : Type 0} (m : FinMap path_cmp V) (p : Path) (names : List (List ℕ)) : Type 0 where
  pub names_only : AllByRecursion IsName names
  pub each_once : (n : List ℕ) → count_by (is_same_name n) names ≡ (if contains_key m (p ++ Name n ∷ []) then 1 else 0)
