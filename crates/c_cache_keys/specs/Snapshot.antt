-- look-ups over a snapshot
use Rattle.std.specs.Prelude.{◌≡◌, ◌⊎◌, ◌∷◌, [], false, Option, Some, None}
use Rattle.std.specs.FinMap.{entries, get}
use Rattle.cck_entry.specs.Entry.{Entry, EntryText}
use Rattle.cck_entry.specs.Find.{found_in}
use Rattle.cck_entry.specs.Statuses.{Statuses}
use Rattle.cck_files.specs.FileMap.{FileMap, FileNode}
use Rattle.cck_path.specs.Bytes.{Bytes}
use Rattle.cck_path.specs.Path.{Path}
use Rattle.cck_util.specs.MapStore.{State, map_store, empty_state}
use Rattle.cck_hasher.specs.Call.{Call, Keyed}
use Rattle.cck_hasher.specs.Keys.{extra_texts, preprocessor_key_of}
use Rattle.cck_hasher.specs.World.{World}
use Rattle.cck_hasher.specs.declared.call.CacheControl.TheVariants.{Default}
use Rattle.c_cache_keys.specs.External.{Prints, no_text}
use Rattle.c_cache_keys.specs.Requests.{call_for, world_for}
use Rattle.c_cache_keys.specs.Statuses.{AsksWith, matching_with}
use Rattle.c_cache_keys.specs.declared.requests.SnapshotRequest.{SnapshotRequest}

-- a store in memory that was just made and has taken one pair
abbrev pub one_pair : Bytes → Bytes → State
one_pair k bytes = record empty_state { pairs = (k, bytes) ∷ []; armed = record empty_state.armed { calls = 1 } }

-- the call over other files
abbrev pub over : {V : Type 0} → FileMap → Call V → Call V
over files c = record c { files = files }

-- each node of the first files is one of the second
abbrev pub IsPart : FileMap → FileMap → Type 0
IsPart part whole = (p : Path) (n : FileNode) → get part.nodes p ≡ Some n → get whole.nodes p ≡ Some n

-- Files are left out of the whole, but for the extra files.
pub record IsSnapshot {V : Type 0} (w : World V) (c : Call V) (whole : FileMap) : Type 0 where
  pub part : IsPart c.files whole
  pub extra : extra_texts w (over whole c) ≡ extra_texts w c

module _ (hash : Bytes → Bytes) (files : FileMap) (r : SnapshotRequest) where
  -- the preprocessor key of a request over files that are left out of these
  abbrev pub IsKeyOfPart : Bytes → Type 0
  IsKeyOfPart k =
      (part : FileMap) × IsSnapshot (world_for hash no_text r) (call_for Default part r) files
      × (preprocessor_key_of (world_for hash no_text r) (call_for Default part r) ≡ Some k)

  -- The result of a look-up in an entry with statuses. A key is found for each store that holds the text of the entry under the preprocessor key
  -- of the request, and there it is a step of each world. None is returned only where the entry has no key whose included files are all accepted or
  -- unchanged. F says that there was a fault.
  abbrev pub IsLookedUp : Type 0 → Statuses → Entry → Option Bytes → Type 0
  IsLookedUp F statuses e (Some key) =
      (k bytes : Bytes) → IsKeyOfPart k → EntryText e bytes → (prints : Prints)
      → (t : State) × AsksWith (world_for hash prints r) map_store statuses (call_for Default files r) F (one_pair k bytes) (Keyed key false) t
  IsLookedUp F statuses e None = (found_in (matching_with (world_for hash no_text r) statuses (call_for Default files r)) (entries e) ≡ None) ⊎ F
