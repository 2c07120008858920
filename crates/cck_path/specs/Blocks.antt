-- blocks of entries, one after another
use Rattle.std.specs.Prelude.{◌≡◌, ℕ, ◌+◌, ◌<◌, ◌≤◌, List, [], ◌∷◌, Result, Err, Option, Some, None, MatchOption, IfOk, IfErr, Vec, false, length, take, slice_index_or}
use Rattle.std.specs.Global.{Global}
use Rattle.std.specs.List.{AllByRecursion, flat_map}
use Rattle.std.specs.Ordering.{is_gt}
use Rattle.std.specs.declared.cmp.Ordering.TheVariants.{Greater}
use Rattle.cck_path.specs.Path.{Path, components, path_cmp}
use Rattle.cck_path.specs.PathMap.{IsGapFor, IsInOrder, IsPlaceOf, path_of}
use Rattle.cck_path.specs.declared.path_map.Entry.{Entry}

-- the entries of blocks, one block after another
abbrev pub entries_of : {V : Type 0} → List (Vec (Entry V) Global) → List (Entry V)
entries_of bs = flat_map (λ b. b.items) bs

-- the number of entries before block k
abbrev pub start_of : {V : Type 0} → List (Vec (Entry V) Global) → ℕ → ℕ
start_of bs k = length (entries_of (take k bs))

-- the place among all entries of place j of block k, and the first place where there is no block
abbrev pub place_of : {V : Type 0} → List (Vec (Entry V) Global) → Option (ℕ × ℕ) → ℕ
place_of bs None = 0
place_of bs (Some position) = start_of bs position.0 + position.1

-- the path of the first entry, or the empty path
abbrev pub first_entry_path : {V : Type 0} → List (Entry V) → Path
first_entry_path [] = components []
first_entry_path (e ∷ es) = path_of e

-- no block is empty
abbrev pub NoneEmpty : {V : Type 0} → List (Vec (Entry V) Global) → Type 0
NoneEmpty bs = AllByRecursion (λ b. 0 < length b.items) bs

-- the block k has a place j
abbrev pub IsWithin : {V : Type 0} → List (Vec (Entry V) Global) → ℕ → ℕ → Type 0
IsWithin {V} bs k j = (k < length bs) × ((d : Vec (Entry V) Global) → j < length (slice_index_or bs k d).items)

-- the paths of the blocks' entries rise, and no block is empty
pub record AreOrderedBlocks {V : Type 0} (bs : List (Vec (Entry V) Global)) : Type 0 where
  pub in_order : IsInOrder (entries_of bs)
  pub none_empty : NoneEmpty bs

-- the block k holds the place of a path: its first path isn't higher, unless it is the first block, and that of the next one is
pub record IsBlockFor {V : Type 0} (p : Path) (bs : List (Vec (Entry V) Global)) (k : ℕ) : Type 0 where
  pub in_range : k < length bs
  pub not_higher : (d : Vec (Entry V) Global) → 0 < k → is_gt (path_cmp (first_entry_path (slice_index_or bs k d).items) p) ≡ false
  pub next_higher : (d : Vec (Entry V) Global) → k + 1 < length bs → path_cmp (first_entry_path (slice_index_or bs (k + 1) d).items) p ≡ Greater

-- the place of a path's entry in the block k, or where it would be inserted
pub record IsPositionFor {V : Type 0} (p : Path) (bs : List (Vec (Entry V) Global)) (k : ℕ) (r : Result ℕ ℕ) : Type 0 where
  pub in_range : k < length bs
  pub in_block : (d : Vec (Entry V) Global) → IfOk r (λ j. j < length (slice_index_or bs k d).items) × IfErr r (λ j. j ≤ length (slice_index_or bs k d).items)
  pub place : IfOk r (λ j. IsPlaceOf p (entries_of bs) (start_of bs k + j))
  pub gap : IfErr r (λ j. IsGapFor p (entries_of bs) (start_of bs k + j))

-- a path has no entry: one would go to this place, or there is no block yet
abbrev pub HasNoEntry : {V : Type 0} → Path → List (Vec (Entry V) Global) → Option (ℕ × ℕ) → Type 0
HasNoEntry p bs gap = MatchOption gap (bs ≡ []) (λ position. IsPositionFor p bs position.0 (Err position.1))
