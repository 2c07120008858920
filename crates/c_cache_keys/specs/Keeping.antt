-- calls that add their result to an entry that a store holds, and stores whose entries have several results
use Rattle.std.specs.Prelude.{◌≡◌, ◌⊎◌, List, Contains}
use Rattle.std.specs.FinMap.{empty, entries, insert}
use Rattle.cck_entry.specs.Entry.{Entry, EntryText, added}
use Rattle.cck_include.specs.Include.{Include}
use Rattle.cck_path.specs.Bytes.{Bytes}
use Rattle.cck_util.specs.Store.{Store, StoreFailure, Stored}
use Rattle.cck_hasher.specs.Call.{Call, CallResult, Done, Fault}
use Rattle.cck_hasher.specs.Step.{Chain, OwnPair, Step}
use Rattle.cck_hasher.specs.World.{World}

-- What the put of an entry of one result does where this result is added to another entry: the store takes the text of that entry with the
-- result. `base k e` says that a result may be added to the entry e under the key k.
pub record AddsTo {S : Type 0} (base : Bytes → Entry → Type 0) (st : Store S) (s : S) (k one : Bytes) (stored : Stored) (t : S) : Type 0 where
  pub key : Bytes
  pub includes : List Include
  pub is_one : EntryText (insert empty key includes) one
  pub onto : Entry
  pub is_base : base k onto
  pub bytes : Bytes
  pub is_text : EntryText (added onto key includes) bytes
  pub put : st.put s k bytes stored t

-- the store, each put of which does so
abbrev pub adding : {S : Type 0} → (Bytes → Entry → Type 0) → Store S → Store S
adding base st = record st { put = AddsTo base st }

-- the empty entry alone: each entry has one result
abbrev pub IsFirst : Bytes → Entry → Type 0
IsFirst k e = e ≡ empty

module _ {S : Type 0} (st : Store S) where
  -- the empty entry, or one that is held under this key
  abbrev pub IsHeldOrEmpty : S → Bytes → Entry → Type 0
  IsHeldOrEmpty s k e = (e ≡ empty) ⊎ ((bytes : Bytes) × st.held s k bytes × EntryText e bytes)

  -- why the empty entry counts: there was a store failure, or nothing is held under the key, or what is held is no entry
  pub data IsNoneHeld (s t : S) (k : Bytes) : Type 0 where
    failed : StoreFailure st s t → IsNoneHeld s t k
    nothing : ((bytes : Bytes) → st.held s k bytes → ⊥) → IsNoneHeld s t k
    no_entry : (bytes : Bytes) → st.held s k bytes → ((e : Entry) → EntryText e bytes → ⊥) → IsNoneHeld s t k

  -- From one state to another: the entry that is held under this key at first. The empty one counts only for such a reason.
  abbrev pub IsHeldEntry : S → S → Bytes → Entry → Type 0
  IsHeldEntry s t k e = ((bytes : Bytes) × st.held s k bytes × EntryText e bytes) ⊎ ((e ≡ empty) × IsNoneHeld s t k)

module _ {V : Type 0} (w : World V) where
  -- each result of the entry, alone, is the own pair of one of these calls under this preprocessor key
  abbrev pub EachOwn : List (Call V) → Bytes → Entry → Type 0
  EachOwn calls k e =
      (key : Bytes) (includes : List Include) → Contains (entries e) (key, includes)
      → (one : Bytes) × EntryText (insert empty key includes) one × (c : Call V) × Contains calls c × OwnPair w c key k one

module _ {V S : Type 0} (w : World V) (st : Store S) where
  -- one call, which adds its result to such an entry
  abbrev pub StepOnto : (Bytes → Entry → Type 0) → Call V → Type 0 → S → CallResult → S → Type 0
  StepOnto base c F s r t = Step w (adding base st) c F s r t

  -- one call, which adds its result to an entry that the store holds when the call begins, or to none
  abbrev pub StepKeeping : Call V → Type 0 → S → CallResult → S → Type 0
  StepKeeping c F s r t = StepOnto (IsHeldOrEmpty st s) c F s r t

  -- calls in order, each starting where the one before it ended
  abbrev pub RunKeeping : S → List (Done V) → List CallResult → S → Type 0
  RunKeeping = Chain (λ d s r t. StepKeeping d.call (Fault d) s r t)

  -- each held pair is the text of an entry, each of whose results is the own one of an earlier call
  abbrev pub SoundEach : S → List (Call V) → Type 0
  SoundEach s earlier = (k bytes : Bytes) → st.held s k bytes → (e : Entry) × EntryText e bytes × EachOwn w earlier k e
