-- laws of look-ups and recordings over snapshots
use Rattle.std.specs.Prelude.{◌≡◌, ◌++◌, ◌∷◌, List, true, false, Some, Ok, Contains, IsSome}
use Rattle.std.specs.FinMap.{empty, insert}
use Rattle.std.specs.List.{AllZip}
use Rattle.cck_entry.specs.Entry.{EntryText}
use Rattle.cck_entry.specs.Statuses.{Statuses, status_accepts}
use Rattle.cck_files.specs.FileMap.{FileMap, FileNode, file_at, metadata_of}
use Rattle.cck_include.specs.Include.{Include}
use Rattle.cck_include.specs.Recorded.{is_timed}
use Rattle.cck_path.specs.Bytes.{Bytes}
use Rattle.cck_path.specs.Path.{components}
use Rattle.cck_util.specs.MapStore.{State, map_store, empty_state}
use Rattle.cck_util.specs.Store.{Store, Stored}
use Rattle.cck_hasher.specs.Call.{Call, CallResult, Done, Fault, Keyed, calls_of}
use Rattle.cck_hasher.specs.Keys.{printed}
use Rattle.c_cache_keys.specs.Laws.{IsTransparent}
use Rattle.c_cache_keys.specs.Premises.{Premises}
use Rattle.cck_hasher.specs.Step.{IsEmpty, OwnPair, Sound, Step, matching}
use Rattle.c_cache_keys.specs.Witness.{witness_run, witness_world}
use Rattle.cck_hasher.specs.World.{World}
use Rattle.cck_hasher.specs.declared.call.CacheControl.TheVariants.{ForceRecache}
use Rattle.c_cache_keys.specs.Snapshot.{IsSnapshot, one_pair, over}
use Rattle.c_cache_keys.specs.Statuses.{AreStatuses, AsksWith, HonestTimes, RunByStatuses, StepByStatuses, TimesTell, matching_with}

module _ {V S : Type 0} (w : World V) (st : Store S) where
  -- a hit on one pair is a hit on each store that returns this pair's bytes
  abbrev pub HitOnAnyStore : Type 0
  HitOnAnyStore =
      (d : Done V) (statuses : Statuses) (k bytes key : Bytes) (t : State) (s u : S)
      → AsksWith w map_store statuses d.call (Fault d) (one_pair k bytes) (Keyed key false) t → st.got s k (Ok (Some bytes)) u
      → AsksWith w st statuses d.call (Fault d) s (Keyed key false) u

  -- where no status is given, a call that asks with statuses is a step
  abbrev pub NoStatusesIsStep : Type 0
  NoStatusesIsStep = (d : Done V) (s t : S) (r : CallResult) → AsksWith w st empty d.call (Fault d) s r t → Step w st d.call (Fault d) s r t

  -- if times are honest, a call that asks a sound store with right statuses is a step
  abbrev pub StepIsStep : Type 0
  StepIsStep =
      (earlier later : List (Call V)) (d : Done V) (s t : S) (r : CallResult) → HonestTimes w (earlier ++ d.call ∷ later) → Sound w st s earlier
      → StepByStatuses w st d.call (Fault d) s r t → Step w st d.call (Fault d) s r t

  -- So under the premises each key that is returned over a run of such calls, from an empty store, is the plain key of its call.
  abbrev pub HeadlineByStatuses : Type 0
  HeadlineByStatuses =
      (s t : S) (done : List (Done V)) (call_results : List CallResult) → RunByStatuses w st s done call_results t → IsEmpty w st s
      → HonestTimes w (calls_of done) → Premises w (calls_of done) → AllZip (IsTransparent w) (calls_of done) call_results

  -- a recording of one pair is a recording on each store that this pair is put into
  abbrev pub RecordingOnAnyStore : Type 0
  RecordingOnAnyStore =
      (d : Done V) (k bytes key : Bytes) (from_store : Stored) (s u : S) → d.call.control ≡ ForceRecache
      → Step w map_store d.call (Fault d) empty_state (Keyed key true) (one_pair k bytes) → st.put s k bytes from_store u → Step w st d.call (Fault d) s (Keyed key true) u

  -- one that records nothing leaves each store
  abbrev pub NothingOnAnyStore : Type 0
  NothingOnAnyStore =
      (d : Done V) (key : Bytes) (s : S) → d.call.control ≡ ForceRecache
      → Step w map_store d.call (Fault d) empty_state (Keyed key true) empty_state → Step w st d.call (Fault d) s (Keyed key true) s

-- the bytes are of an entry of one result, as those of a recording are
abbrev pub HasOneResult : Bytes → Type 0
HasOneResult bytes = (key : Bytes) × (includes : List Include) × EntryText (insert empty key includes) bytes

module _ {V : Type 0} (w : World V) where
  -- a hit over a snapshot of files is a hit over all of them
  abbrev pub HitOverAll : Type 0
  HitOverAll =
      (d : Done V) (statuses : Statuses) (whole : FileMap) (k bytes key : Bytes) (t : State) → IsSnapshot w d.call whole → HasOneResult bytes
      → AsksWith w map_store statuses d.call (Fault d) (one_pair k bytes) (Keyed key false) t → AsksWith w map_store statuses (over whole d.call) (Fault d) (one_pair k bytes) (Keyed key false) t

  -- what an earlier call recorded of a file is accepted or unchanged exactly if it is unchanged, where times tell
  abbrev pub StatusesAreMatches : Type 0
  StatusesAreMatches =
      (c d : Call V) (statuses : Statuses) (key k bytes : Bytes) (own : OwnPair w c key k bytes) (i : Include) → Contains own.includes i
      → AreStatuses d.files statuses → TimesTell c d → matching_with w statuses d i ≡ matching w d i

  -- What a call recorded of a file that has both times, and whose contents hold no date and no timestamp, is accepted by the status that it had.
  abbrev pub OldIsAccepted : Type 0
  OldIsAccepted =
      (c : Call V) (key k bytes : Bytes) (own : OwnPair w c key k bytes) (i : Include) (n : FileNode) → Contains own.includes i → file_at c.files (components i.path) ≡ Ok n
      → IsSome n.modified → IsSome n.changed → is_timed n.contents ≡ false → status_accepts i (metadata_of n) ≡ true

  -- a recording of one pair over a snapshot is one over all of the files, of the same pair, if the same text is printed
  abbrev pub RecordingOverAll : Type 0
  RecordingOverAll =
      (d : Done V) (whole : FileMap) (k bytes key : Bytes) → IsSnapshot w d.call whole → d.call.control ≡ ForceRecache → printed w (over whole d.call) ≡ printed w d.call
      → Step w map_store d.call (Fault d) empty_state (Keyed key true) (one_pair k bytes) → Step w map_store (over whole d.call) (Fault d) empty_state (Keyed key true) (one_pair k bytes)

-- the calls that meet the premises of the headline have honest times
abbrev pub HonestTimesCanHold : Type 0
HonestTimesCanHold = HonestTimes witness_world (calls_of witness_run)
