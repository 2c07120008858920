-- what is known of paths, and of the way to them
use Rattle.std.specs.Prelude.{◌≡◌, ◌≢◌, ℕ, ◌<◌, ◌⊎◌, Bool, true, false, List, Option, Some, None, length, take, slice_get, IsUtf8}
use Rattle.std.specs.Fs.{IsDir, IsFile, IsSymlink}
use Rattle.std.specs.declared.fs.attrs.FileType.{FileType}
use Rattle.std.specs.HashMap.{get_by}
use Rattle.std.specs.Str.{bytes_eq}
use Rattle.cck_cache_files.specs.declared.path_states.PathState.{PathState}
use Rattle.cck_cache_files.specs.declared.path_states.PathState.TheVariants.{Directory, Doubtful, File, Link}
use Rattle.cck_cache_files.specs.declared.path_states.PathStates.{PathStates}

-- A file of this type has this state: that of its type if it was not changed at the given time or later. All else is in doubt.
pub record IsStateFound (type : FileType) (is_old : Bool) (state : PathState) : Type 0 where
  pub directory : IsDir type → is_old ≡ true → state ≡ Directory
  pub link : IsSymlink type → is_old ≡ true → state ≡ Link
  pub file : IsFile type → is_old ≡ true → state ≡ File
  pub young : is_old ≡ false → state ≡ Doubtful
  pub other : ¬ (IsDir type) → ¬ (IsSymlink type) → ¬ (IsFile type) → state ≡ Doubtful

-- the state that is kept of a path
abbrev pub state_at : PathStates → List ℕ → Option PathState
state_at states path = get_by (λ known. bytes_eq path known.items) states.states

-- the same states are kept
pub record IsUnchanged (old new : PathStates) : Type 0 where
  pub since : new.since ≡ old.since
  pub states : (path : List ℕ) → state_at new path ≡ state_at old path

-- all states that were kept are kept, and others may have been added
pub record KeepsStates (old new : PathStates) : Type 0 where
  pub since : new.since ≡ old.since
  pub states : (path : List ℕ) (state : PathState) → state_at old path ≡ Some state → state_at new path ≡ Some state

-- A path has this state: the one that was kept of it, or else one that is added for it alone. The latter is in doubt
-- if the path is no text.
pub record IsStateOf (old new : PathStates) (path : List ℕ) (state : PathState) : Type 0 where
  pub since : new.since ≡ old.since
  pub state_is : state_at new path ≡ Some state
  pub kept : (known : PathState) → state_at old path ≡ Some known → known ≡ state
  pub others : (other : List ℕ) → other ≢ path → state_at new other ≡ state_at old other
  pub no_text : state_at old path ≡ None → ¬ (IsUtf8 path) → state ≡ Doubtful

-- a slash ends a directory's path, which is not empty, at this place
pub record EndsAt (path : List ℕ) (place : ℕ) : Type 0 where
  pub inside : 0 < place
  pub slash : slice_get path place ≡ Some 47

-- the path before each slash up to this place has one of these states
abbrev pub AreOnTheWay : (PathState → Type 0) → PathStates → List ℕ → ℕ → Type 0
AreOnTheWay P states path count =
    (place : ℕ) → place < count → EndsAt path place → (state : PathState) × (state_at states (take place path) ≡ Some state) × P state

-- something is at a path that is not in doubt
abbrev pub IsThere : PathState → Type 0
IsThere state = (state ≡ Directory) ⊎ ((state ≡ Link) ⊎ (state ≡ File))

-- a directory, or a link, which may lead to one
abbrev pub LeadsOn : PathState → Type 0
LeadsOn state = (state ≡ Directory) ⊎ (state ≡ Link)

-- a directory, or where links count a link
abbrev pub LeadsOnBy : Bool → PathState → Type 0
LeadsOnBy true state = LeadsOn state
LeadsOnBy false state = state ≡ Directory

-- the first path on the way to a path that does not lead on, where links count or not, and its state
pub record IsFirstEnd (links : Bool) (states : PathStates) (path front : List ℕ) (state : PathState) : Type 0 where
  pub front_is : front ≡ take (length front) path
  pub state_is : state_at states front ≡ Some state
  pub before : AreOnTheWay (LeadsOnBy links) states path (length front)
  pub ends : EndsAt path (length front)
  pub stops : ¬ (LeadsOnBy links state)

-- the first path on the way to a path that does not lead on, or the whole path, and its state
pub record IsFirstOther (states : PathStates) (path front : List ℕ) (state : PathState) : Type 0 where
  pub front_is : front ≡ take (length front) path
  pub state_is : state_at states front ≡ Some state
  pub before : AreOnTheWay LeadsOn states path (length front)
  pub ends : (front ≡ path) ⊎ (EndsAt path (length front) × ¬ (LeadsOn state))

-- a path on the way to a path is no directory
abbrev pub HasOther : PathStates → List ℕ → Type 0
HasOther states path = (place : ℕ) × EndsAt path place × (state : PathState) × (state_at states (take place path) ≡ Some state) × (state ≢ Directory)
