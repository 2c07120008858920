-- maps from paths
use Rattle.std.specs.Prelude.{◌≡◌, ℕ, ◌<◌, ◌≤◌, List, T, Bool, map, not, length, slice_index_or}
use Rattle.std.specs.Coded.{Coded, code_by, coded_ℕ, coded_list}
use Rattle.std.specs.FinMap.{FinMap, code, is_sorted, retain_keys}
use Rattle.std.specs.Ordering.{is_lt}
use Rattle.std.specs.List.{AllWithin}
use Rattle.std.specs.declared.cmp.Ordering.TheVariants.{Less, Greater}
use Rattle.cck_path.specs.Path.{Path, Component, components, path_cmp, rank, unrank, unrank-rank}
use Rattle.cck_path.specs.declared.path_map.Entry.{Entry}

-- a component is stored as its rank
abbrev pub coded_component : Coded Component
coded_component = code_by (List ℕ) (coded_list coded_ℕ) rank unrank unrank-rank

-- a map from paths is stored as the list of its entries
abbrev pub coded_path_map : {V : Type 0} → Coded V → Coded (FinMap path_cmp V)
coded_path_map v = code (coded_list coded_component) v

-- the path of an entry
abbrev pub path_of : {V : Type 0} → Entry V → Path
path_of e = components e.path.items

-- a path and its value
abbrev pub pair_of : {V : Type 0} → Entry V → Path × V
pair_of e = (path_of e, e.value)

-- the paths of the entries rise
abbrev pub IsInOrder : {V : Type 0} → List (Entry V) → Type 0
IsInOrder es = T (is_sorted path_cmp (map pair_of es))

-- the entry at place i has this path
pub record IsPlaceOf {V : Type 0} (p : Path) (es : List (Entry V)) (i : ℕ) : Type 0 where
  pub in_range : i < length es
  pub has_path : (d : Entry V) → path_of (slice_index_or es i d) ≡ p

-- an entry of this path would go to place i: lower paths before it, and higher ones from it on
pub record IsGapFor {V : Type 0} (p : Path) (es : List (Entry V)) (i : ℕ) : Type 0 where
  pub in_range : i ≤ length es
  pub lower_before : AllWithin (λ e. path_cmp (path_of e) p ≡ Less) es 0 i
  pub higher_after : AllWithin (λ e. path_cmp (path_of e) p ≡ Greater) es i (length es)

-- whether a path is not lower than a given one
abbrev pub is_from : Path → Path → Bool
is_from p q = not (is_lt (path_cmp q p))

-- the part of a map whose paths are not lower than a given one
abbrev pub part_from : {V : Type 0} → Path → FinMap path_cmp V → FinMap path_cmp V
part_from p m = retain_keys m (is_from p)
