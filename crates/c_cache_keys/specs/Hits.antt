-- statements about stored results and about errors; none of them needs the premises
use Rattle.std.specs.Prelude.{◌≡◌, ◌≢◌, ◌⊎◌, List, [], true, false, length, Some, None, Ok}
use Rattle.std.specs.List.{AllZip}
use Rattle.cck_entry.specs.Entry.{Entry, EntryText}
use Rattle.cck_files.specs.FileMap.{FileNode, file_at}
use Rattle.cck_include.specs.Recorded.{recorded}
use Rattle.cck_path.specs.Bytes.{Bytes}
use Rattle.cck_path.specs.Path.{Path}
use Rattle.cck_util.specs.MapStore.{State, call_begun, map_store}
use Rattle.cck_util.specs.Store.{HoldsOnly, StoreFailure, Store}
use Rattle.cck_hasher.specs.Call.{CallResult, Call, Done, Fault, Keyed, ReturnsError, calls_of, Why, Memory, Extra, Input, Store as StoreFails, Damaged, NoText, Marker}
use Rattle.cck_util.specs.Language.{is_preprocessed_first}
use Rattle.cck_hasher.specs.Keys.{extra_texts, input_file, preprocessor_key_of, printed, uses_cache}
use Rattle.c_cache_keys.specs.Laws.{CanHit}
use Rattle.cck_hasher.specs.Step.{OwnPair, Run, Step, found}
use Rattle.cck_hasher.specs.Walk.{Accepted, Errs, IsNamed, Walk}
use Rattle.cck_hasher.specs.World.{World, setting}

-- The regular files that the text of the earlier call names are regular for the later one, of the same sizes and recorded digests.
abbrev pub SameRecords : {V : Type 0} → World V → Call V → Call V → Bytes → Type 0
SameRecords w c d text =
    (p : Path) (n : FileNode) → IsNamed w c text p → file_at c.files p ≡ Ok n
    → (o : FileNode) × (file_at d.files p ≡ Ok o) × (length o.contents ≡ length n.contents) × (recorded (setting w d) o ≡ recorded (setting w c) n)

-- A computed key of the call can be stored: there is a preprocessor key, the text is accepted and names a regular file, and there was no fault.
pub record CanStore {V : Type 0} (w : World V) (d : Done V) (k text : Bytes) : Type 0 where
  pub key : preprocessor_key_of w d.call ≡ Some k
  pub is_text : printed w d.call ≡ Some text
  pub accepted : Walk w d.call text Accepted
  pub path : Path
  pub named : IsNamed w d.call text path
  pub node : FileNode
  pub file : file_at d.call.files path ≡ Ok node
  pub no_fault : Fault d → ⊥

-- the call doesn't return a computed key with this preprocessor key
abbrev pub IsUnrelated : {V : Type 0} → World V → Bytes → Call V → CallResult → Type 0
IsUnrelated w k c r = (key : Bytes) → r ≡ Keyed key true → preprocessor_key_of w c ≢ Some k

module _ {V : Type 0} (w : World V) where
  -- On a store in memory a call that can hit returns the held key that matches, if there is no store failure. The call leaves the store as
  -- its one get leaves it.
  abbrev pub MapStoreReturnsStored : Type 0
  MapStoreReturnsStored =
      (d : Done V) (s t : State) (r : CallResult) (k bytes key : Bytes) (e : Entry) → CanHit w d k r → (StoreFailure map_store s t → ⊥) → map_store.held s k bytes → EntryText e bytes
      → found w d.call e ≡ Some key → Step w map_store d.call (Fault d) s r t → (r ≡ Keyed key false) × (t ≡ call_begun s)

module _ {V S : Type 0} (w : World V) (st : Store S) where
  -- After a miss the store holds the call's own pair, and nothing else under its key. The conditions are that the key can be stored and that
  -- there was no store failure.
  abbrev pub FreshIsHeld : Type 0
  FreshIsHeld =
      (d : Done V) (s t : S) (k text key : Bytes) → CanStore w d k text → (StoreFailure st s t → ⊥) → Step w st d.call (Fault d) s (Keyed key true) t
      → (bytes : Bytes) × OwnPair w d.call key k bytes × HoldsOnly st t k bytes

  -- Let a call be able to hit, and let something be held under its key, all of it entries with a key that matches. If there is no store
  -- failure, the call returns such a key.
  abbrev pub HeldKeyIsReturned : Type 0
  HeldKeyIsReturned =
      (d : Done V) (s t : S) (r : CallResult) (k bytes : Bytes) → CanHit w d k r → (StoreFailure st s t → ⊥) → st.held s k bytes
      → ((x : Bytes) → st.held s k x → (e : Entry) × EntryText e x × (key : Bytes) × (found w d.call e ≡ Some key))
      → Step w st d.call (Fault d) s r t
      → (key : Bytes) × (x : Bytes) × (e : Entry) × st.held s k x × EntryText e x × (found w d.call e ≡ Some key) × (r ≡ Keyed key false)

  -- After a miss whose key can be stored, a later call that can hit, with the same preprocessor key, returns the same key from the store. The
  -- recorded files must be the same, and no call between may have returned a computed key with that preprocessor key. There must be no store
  -- failure.
  abbrev pub StoredIsHit : Type 0
  StoredIsHit =
      (c d : Done V) (between : List (Done V)) (call_results : List CallResult) (s after before t : S) (k text key : Bytes) (r : CallResult)
      → CanStore w c k text → Step w st c.call (Fault c) s (Keyed key true) after
      → Run w st after between call_results before → AllZip (IsUnrelated w k) (calls_of between) call_results
      → CanHit w d k r → SameRecords w c.call d.call text → Step w st d.call (Fault d) before r t
      → (StoreFailure st s t → ⊥)
      → r ≡ Keyed key false

  -- what is true where a call returns an error and there was no fault
  pub data Cause (c : Call V) (s t : S) : Why → Type 0 where
    of_memory : Cause c s t Memory
    of_extra : extra_texts w c ≡ None → Cause c s t Extra
    of_input : input_file w c ≡ None → (uses_cache w c.request ≡ true) ⊎ (is_preprocessed_first c.request.arguments.language ≡ false) → Cause c s t Input
    of_store : StoreFailure st s t → Cause c s t StoreFails
    of_damage : (k bytes : Bytes) → preprocessor_key_of w c ≡ Some k → st.held s k bytes → bytes ≢ [] → ((e : Entry) → EntryText e bytes → ⊥) → Cause c s t Damaged
    of_text : is_preprocessed_first c.request.arguments.language ≡ true → printed w c ≡ None → Cause c s t NoText
    of_marker : preprocessor_key_of w c ≢ None → (text : Bytes) → printed w c ≡ Some text → Walk w c text Errs → Cause c s t Marker

  -- each error has its cause
  abbrev pub ErrorsHaveCauses : Type 0
  ErrorsHaveCauses = (d : Done V) (s t : S) (why : Why) → (Fault d → ⊥) → Step w st d.call (Fault d) s (ReturnsError why) t → Cause d.call s t why
