-- statements about runs
use Rattle.std.specs.Prelude.{◌≡◌, ◌≢◌, ◌⊎◌, ◌↔◌, List, [], ◌∷◌, ◌++◌, true, false, Option, Some, Ok}
use Rattle.std.specs.FinMap.{entries}
use Rattle.std.specs.List.{AllZip}
use Rattle.cck_path.specs.Bytes.{Bytes}
use Rattle.cck_entry.specs.Entry.{Entry, EntryText}
use Rattle.cck_entry.specs.Find.{found_in}
use Rattle.cck_include.specs.Include.{Include}
use Rattle.cck_util.specs.Store.{Returned, Store}
use Rattle.cck_hasher.specs.Call.{CallResult, Call, Damaged, Done, Fault, Keyed, Memory, ReturnsError, calls_of}
use Rattle.cck_hasher.specs.Keys.{plain_key, preprocessor_key_of}
use Rattle.c_cache_keys.specs.Premises.{Premises}
use Rattle.cck_hasher.specs.Step.{Chain, Ends, Gives, IsEmpty, OwnPair, Run, Sound, Step, matching}
use Rattle.cck_hasher.specs.World.{World}
use Rattle.cck_hasher.specs.declared.call.CacheControl.TheVariants.{Default, ForceRecache}

-- a key that is returned is the plain key, and an error isn't caused by what the store returned
abbrev pub IsTransparent : {V : Type 0} → World V → Call V → CallResult → Type 0
IsTransparent w c (Keyed key fresh) = plain_key w c ≡ Some key
IsTransparent w c (ReturnsError why) = why ≢ Damaged

-- the call may return a stored key: its control allows it, there is a preprocessor key, and there was no fault and no lack of memory
pub record CanHit {V : Type 0} (w : World V) (d : Done V) (k : Bytes) (r : CallResult) : Type 0 where
  pub control : d.call.control ≡ Default
  pub key : preprocessor_key_of w d.call ≡ Some k
  pub no_fault : Fault d → ⊥
  pub enough_memory : r ≢ ReturnsError Memory

-- these lists joined, in their order
abbrev pub joined_lists : {X : Type 0} → List (List X) → List X
joined_lists [] = []
joined_lists (xs ∷ others) = xs ++ joined_lists others

module _ {V S : Type 0} (w : World V) (st : Store S) where
  -- a run over one list and then another is a run over both lists joined, and conversely
  abbrev pub RunsJoin : Type 0
  RunsJoin =
      (s t : S) (first second : List (Done V)) (call_results : List CallResult) → Run w st s (first ++ second) call_results t
      ↔ ((mid : S) × (before : List CallResult) × (after : List CallResult) × (call_results ≡ before ++ after) × Run w st s first before mid × Run w st mid second after t)

  -- a computed key is the plain key, whatever the store holds
  abbrev pub FreshIsPlain : Type 0
  FreshIsPlain = (d : Done V) (s t : S) (key : Bytes) → Step w st d.call (Fault d) s (Keyed key true) t → plain_key w d.call ≡ Some key

  -- a call on a sound store leaves a sound one
  abbrev pub StaysSound : Type 0
  StaysSound = (earlier : List (Call V)) (d : Done V) (s t : S) (r : CallResult) → Sound w st s earlier → Step w st d.call (Fault d) s r t → Sound w st t (earlier ++ d.call ∷ [])

  -- under the premises, a key that is returned from a sound store is the plain key
  abbrev pub HitIsPlain : Type 0
  HitIsPlain =
      (earlier later : List (Call V)) (d : Done V) (s t : S) (key : Bytes) → Premises w (earlier ++ d.call ∷ later) → Sound w st s earlier
      → Step w st d.call (Fault d) s (Keyed key false) t → plain_key w d.call ≡ Some key

  -- a sound store returns nothing that is no entry
  abbrev pub NothingDamaged : Type 0
  NothingDamaged = (earlier : List (Call V)) (d : Done V) (s t : S) → Sound w st s earlier → Step w st d.call (Fault d) s (ReturnsError Damaged) t → ⊥

  -- A call that can hit asks the store once, under its key. If the store returns an entry with a key whose included files are all unchanged,
  -- the call returns the greatest such key, as a stored one, and puts nothing. So it does whatever a preprocessor would print. What the store
  -- returned determines in each other case too what the call does next (`Gives`, `Ends`): after a fault of the store it returns that error,
  -- and after nothing it computes its key.
  abbrev pub ReturnsStored : Done V → S → CallResult → S → Type 0
  ReturnsStored d s r t =
      (k : Bytes) → CanHit w d k r → (returned : Returned) × (mid : S) × st.got s k returned mid
      × ((bytes key : Bytes) (e : Entry) (includes : List Include) → returned ≡ Ok (Some bytes) → EntryText e bytes
      → found_in (matching w d.call) (entries e) ≡ Some (key, includes) → (r ≡ Keyed key false) × (t ≡ mid))
      × (o : Option CallResult) × Gives (matching w d.call) (Fault d) returned o × Ends w st d.call (Fault d) o mid r t

  abbrev pub StoredKeyIsReturned : Type 0
  StoredKeyIsReturned = (d : Done V) (s t : S) (r : CallResult) → Step w st d.call (Fault d) s r t → ReturnsStored d s r t

  -- a run, each of whose calls does so between the same two states as its step
  abbrev pub AllReturnStored : S → List (Done V) → List CallResult → S → Type 0
  AllReturnStored = Chain (λ d s r t. Step w st d.call (Fault d) s r t × ReturnsStored d s r t)

  -- each run is one of these, whatever the store holds at first
  abbrev pub RunReturnsStored : Type 0
  RunReturnsStored = (s t : S) (done : List (Done V)) (call_results : List CallResult) → Run w st s done call_results t → AllReturnStored s done call_results t

  -- The headline. Its first half: every key that a run from an empty store returns, stored or computed, is the plain key of its call. And
  -- no call returns an error because of what the store returned. Its second half: a stored key that matches is returned, whatever a
  -- preprocessor prints. The first half has three premises, and a fourth where the option `hash_working_directory` is off: `Premises` has
  -- `CollisionFree`, `DeterministicPreprocessor`, `StrictOptions`, and `KeyDeterminesRequest` for that option. An honest store is part of what
  -- each `PreprocessorStore` keeps to (`got_some`, `got_old` and `put_old` of `StoreLaws`). The second half needs none of them and no empty
  -- store. It needs that the call can hit (`CanHit`).
  abbrev pub Headline : Type 0
  Headline =
      (s t : S) (done : List (Done V)) (call_results : List CallResult) → Run w st s done call_results t
      → (IsEmpty w st s → Premises w (calls_of done) → AllZip (IsTransparent w) (calls_of done) call_results) × AllReturnStored s done call_results t

  -- several runs on one store, each starting where the one before it ended
  abbrev pub Runs : S → List (List (Done V)) → List (List CallResult) → S → Type 0
  Runs = Chain (λ run s call_results t. Run w st s run call_results t)

  abbrev pub RunsHeadline : Type 0
  RunsHeadline =
      (s t : S) (runs : List (List (Done V))) (call_results : List (List CallResult)) → Runs s runs call_results t
      → (IsEmpty w st s → Premises w (calls_of (joined_lists runs)) → AllZip (IsTransparent w) (calls_of (joined_lists runs)) (joined_lists call_results))
      × AllReturnStored s (joined_lists runs) (joined_lists call_results) t

  -- what is held after a call was held before it, or is the call's own pair, whose key was returned as a computed one
  abbrev pub KeepsOldOrOwn : Type 0
  KeepsOldOrOwn =
      (d : Done V) (s t : S) (r : CallResult) → Step w st d.call (Fault d) s r t → (k bytes : Bytes) → st.held t k bytes
      → st.held s k bytes ⊎ ((key : Bytes) × (r ≡ Keyed key true) × OwnPair w d.call key k bytes)

  -- a call that may not return a stored key returns none
  abbrev pub RecacheIsFresh : Type 0
  RecacheIsFresh = (d : Done V) (s t : S) (key : Bytes) → d.call.control ≡ ForceRecache → Step w st d.call (Fault d) s (Keyed key false) t → ⊥
