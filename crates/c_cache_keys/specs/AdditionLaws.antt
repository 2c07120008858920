-- laws of recordings whose result is added to a held entry, and of look-ups in entries of several results
use Rattle.std.specs.Prelude.{◌≡◌, ◌++◌, ◌∷◌, [], List, true, false, Some, Ok}
use Rattle.std.specs.List.{AllZip}
use Rattle.cck_entry.specs.Entry.{Entry, EntryText}
use Rattle.cck_entry.specs.Statuses.{Statuses}
use Rattle.cck_files.specs.FileMap.{FileMap}
use Rattle.cck_path.specs.Bytes.{Bytes}
use Rattle.cck_util.specs.MapStore.{State, empty_state, map_store}
use Rattle.cck_util.specs.Store.{Store, Stored}
use Rattle.cck_hasher.specs.Call.{Call, CallResult, Done, Fault, Keyed, calls_of}
use Rattle.cck_hasher.specs.Keys.{plain_key}
use Rattle.c_cache_keys.specs.Laws.{IsTransparent}
use Rattle.c_cache_keys.specs.Premises.{Premises}
use Rattle.cck_hasher.specs.Step.{Chain, IsEmpty, Step}
use Rattle.cck_hasher.specs.World.{World}
use Rattle.cck_hasher.specs.declared.call.CacheControl.TheVariants.{ForceRecache}
use Rattle.c_cache_keys.specs.Additions.{Holds, IsAddition}
use Rattle.c_cache_keys.specs.Keeping.{EachOwn, IsHeldEntry, IsHeldOrEmpty, SoundEach, StepKeeping, StepOnto, adding}
use Rattle.c_cache_keys.specs.Snapshot.{IsSnapshot, one_pair, over}
use Rattle.c_cache_keys.specs.Statuses.{AreStatuses, AsksWith, HonestTimes, StepByStatuses}

module _ {V S : Type 0} (w : World V) (st : Store S) where
  -- A recording of one pair, whose result was added to what a store holds under its key, is a recording on each store that the bytes are put into.
  abbrev pub AdditionOnAnyStore : Type 0
  AdditionOnAnyStore =
      (d : Done V) (k one held bytes key : Bytes) (from_store : Stored) (s u : S) → d.call.control ≡ ForceRecache
      → Step w map_store d.call (Fault d) empty_state (Keyed key true) (one_pair k one) → Holds st s k held → IsAddition held one bytes
      → st.put s k bytes from_store u → StepOnto w st (IsHeldEntry st s u) d.call (Fault d) s (Keyed key true) u

  -- such a call adds its result to a held entry, or to none
  abbrev pub HeldIsKeeping : Type 0
  HeldIsKeeping =
      (d : Done V) (s t : S) (r : CallResult) → StepOnto w st (IsHeldEntry st s t) d.call (Fault d) s r t → StepKeeping w st d.call (Fault d) s r t

  -- The same where the held bytes are those of an entry of results of earlier calls. The store may hold others when the bytes are put.
  abbrev pub AdditionToEarlier : Type 0
  AdditionToEarlier =
      (earlier : List (Call V)) (d : Done V) (k one held bytes key : Bytes) (from_store : Stored) (s u : S) → d.call.control ≡ ForceRecache
      → Step w map_store d.call (Fault d) empty_state (Keyed key true) (one_pair k one) → ((e : Entry) → EntryText e held → EachOwn w earlier k e)
      → IsAddition held one bytes → st.put s k bytes from_store u → StepOnto w st (EachOwn w earlier) d.call (Fault d) s (Keyed key true) u

  -- what a sound store returned is such an entry, also for later calls
  abbrev pub ReturnedIsEarlier : Type 0
  ReturnedIsEarlier =
      (earlier more : List (Call V)) (s t : S) (k bytes : Bytes) (e : Entry) → SoundEach w st s earlier → st.got s k (Ok (Some bytes)) t → EntryText e bytes
      → EachOwn w (earlier ++ more) k e

  -- a hit puts nothing: it is one of each kind of calls
  abbrev pub HitIsKeeping : Type 0
  HitIsKeeping =
      (d : Done V) (statuses : Statuses) (s t : S) (key : Bytes) → AsksWith w st statuses d.call (Fault d) s (Keyed key false) t
      → AsksWith w (adding (IsHeldOrEmpty st s) st) statuses d.call (Fault d) s (Keyed key false) t

  -- calls in order, each of which adds its result to a held entry and may ask the store with right statuses
  abbrev pub RunByStatusesKeeping : S → List (Done V) → List CallResult → S → Type 0
  RunByStatusesKeeping = Chain (λ d s r t. StepByStatuses w (adding (IsHeldOrEmpty st s) st) d.call (Fault d) s r t)

  -- under the premises and honest times, each key that is returned over such calls, from an empty store, is the plain key of its call
  abbrev pub HeadlineByStatusesKeeping : Type 0
  HeadlineByStatusesKeeping =
      (s t : S) (done : List (Done V)) (call_results : List CallResult) → RunByStatusesKeeping s done call_results t → IsEmpty w st s
      → HonestTimes w (calls_of done) → Premises w (calls_of done) → AllZip (IsTransparent w) (calls_of done) call_results

  -- the same calls, each of which adds its result to any results of calls before it
  abbrev pub RunByStatusesOnEarlier : List (Call V) → S → List (Done V) → List CallResult → S → Type 0
  RunByStatusesOnEarlier earlier s [] [] t = t ≡ s
  RunByStatusesOnEarlier earlier s (d ∷ ds) (r ∷ rs) t =
      (mid : S) × StepByStatuses w (adding (EachOwn w earlier) st) d.call (Fault d) s r mid × RunByStatusesOnEarlier (earlier ++ d.call ∷ []) mid ds rs t
  RunByStatusesOnEarlier earlier s _ _ t = ⊥

  abbrev pub HeadlineByStatusesOnEarlier : Type 0
  HeadlineByStatusesOnEarlier =
      (earlier : List (Call V)) (s t : S) (done : List (Done V)) (call_results : List CallResult) → RunByStatusesOnEarlier earlier s done call_results t
      → SoundEach w st s earlier → HonestTimes w (earlier ++ calls_of done) → Premises w (earlier ++ calls_of done)
      → AllZip (IsTransparent w) (calls_of done) call_results

module _ {V : Type 0} (w : World V) where
  -- Under the premises and honest times, a hit over a snapshot of files, in an entry of results of earlier calls, is a hit over all of the files
  -- with right statuses of them, and its key is the plain key over all of them.
  abbrev pub HitOverAllEach : Type 0
  HitOverAllEach =
      (earlier later : List (Call V)) (d : Done V) (statuses : Statuses) (whole : FileMap) (k bytes key : Bytes) (e : Entry) (t : State)
      → IsSnapshot w d.call whole → AreStatuses whole statuses → HonestTimes w (earlier ++ over whole d.call ∷ later)
      → Premises w (earlier ++ over whole d.call ∷ later) → EntryText e bytes → EachOwn w earlier k e
      → AsksWith w map_store statuses d.call (Fault d) (one_pair k bytes) (Keyed key false) t
      → AsksWith w map_store statuses (over whole d.call) (Fault d) (one_pair k bytes) (Keyed key false) t × (plain_key w (over whole d.call) ≡ Some key)
