-- what is fed for a directory
use Rattle.std.specs.Prelude.{◌≡◌, ℕ, ◌<◌, List, [], ◌∷◌, ◌++◌, length, Bool, true, false, ◌&&◌, ◌||◌, Option, Some, None, IsSome, filter_map, is_some, slice_index_or}
use Rattle.std.specs.List.{AllByRecursion, list_any}
use Rattle.std.specs.Ordering.{eq_by_cmp, is_lt}
use Rattle.std.specs.FinMap.{get}
use Rattle.cck_path.specs.Names.{name_of}
use Rattle.cck_path.specs.Path.{Path, Component, Name, component_cmp, IsName}
use Rattle.cck_files.specs.FileMap.{FileNode, Nodes}
use Rattle.cck_files.specs.FolderText.{is_other, is_too_deep, nodes_material, reached}

-- whether names are in strictly ascending order
abbrev pub rises : List (List ℕ) → Bool
rises [] = true
rises (n ∷ []) = true
rises (n ∷ x ∷ ns) = is_lt (component_cmp (Name n) (Name x)) && rises (x ∷ ns)

abbrev pub any_name : Component → List (List ℕ) → Bool
any_name c [] = false
any_name c (n ∷ ns) = eq_by_cmp component_cmp c (Name n) || any_name c ns

-- the last names of all children, in order
pub record AreChildNames (m : Nodes) (p : Path) (names : List (List ℕ)) : Type 0 where
  pub up : rises names ≡ true
  pub all : (n : List ℕ) → IsSome (get m (p ++ Name n ∷ [])) → any_name (Name n) names ≡ true
  pub names_only : AllByRecursion IsName names
  pub stand : (i : ℕ) → i < length names → is_some (get m (p ++ Name (slice_index_or names i []) ∷ [])) ≡ true

-- the name of a child, below a node of this name
abbrev pub child_name : Option (List ℕ) → List ℕ → List ℕ
child_name None n = n
child_name (Some name) n = name ++ 47 ∷ n

-- what these nodes add was fed, and none of them is of another kind or too deep
pub record IsFedNodes {S : Type 0} (holds : S → List ℕ → Type 0) (level : ℕ) (name : Option (List ℕ)) (nodes : List (Path × FileNode)) (before after : S) : Type 0 where
  pub none_other : list_any is_other nodes ≡ false
  pub none_too_deep : list_any (is_too_deep level) nodes ≡ false
  pub fed : (fed : List ℕ) → holds before fed → holds after (fed ++ nodes_material name nodes)

-- the name that a relative path consists of, if it is a single name
abbrev pub only_name : Path → Option (List ℕ)
only_name [] = None
only_name (c ∷ []) = name_of c
only_name (c ∷ d ∷ q) = None

-- the last names of a directory's direct children, in order
unfoldable pub child_names : Nodes → Path → List (List ℕ)
child_names m f = filter_map (λ e. only_name e.0) (reached m f)
