-- laws of calls that add their result to an entry that a store holds
use Rattle.std.specs.Prelude.{◌≡◌, ◌⊎◌, ◌↔◌, List, [], ◌∷◌, ◌++◌, true, false, length, Some, Contains}
use Rattle.std.specs.FinMap.{entries}
use Rattle.std.specs.List.{AllZip, list_all}
use Rattle.cck_entry.specs.Entry.{Entry, EntryText, is_over}
use Rattle.cck_entry.specs.Find.{found_in}
use Rattle.cck_include.specs.Include.{Include}
use Rattle.cck_path.specs.Bytes.{Bytes}
use Rattle.cck_util.specs.Store.{HoldsOnly, Store, StoreFailure}
use Rattle.cck_hasher.specs.Call.{Call, CallResult, Done, Fault, Keyed, calls_of}
use Rattle.c_cache_keys.specs.Hits.{CanStore, SameRecords}
use Rattle.cck_hasher.specs.Keys.{plain_key, preprocessor_key_of}
use Rattle.c_cache_keys.specs.Laws.{CanHit, IsTransparent, ReturnsStored}
use Rattle.c_cache_keys.specs.Premises.{Premises}
use Rattle.cck_hasher.specs.Step.{Chain, IsEmpty, OwnPair, Run, Sound, Step, matching}
use Rattle.cck_hasher.specs.World.{World}
use Rattle.c_cache_keys.specs.Keeping.{EachOwn, IsFirst, IsHeldEntry, IsHeldOrEmpty, RunKeeping, SoundEach, StepKeeping, StepOnto, adding}

-- an entry that is held alone under the key has this result
pub record HoldsResult {S : Type 0} (st : Store S) (s : S) (k : Bytes) (e : Entry) (key : Bytes) (list : List Include) : Type 0 where
  pub bytes : Bytes
  pub only : HoldsOnly st s k bytes
  pub is_text : EntryText e bytes
  pub has : Contains (entries e) (key, list)

-- A result of this key is displaced from the entry: the call returned a computed key under the same preprocessor key, and it is the same key, or
-- a limit was exceeded.
pub record Displaces {V : Type 0} (w : World V) (c : Call V) (r : CallResult) (k : Bytes) (e : Entry) (key : Bytes) : Type 0 where
  pub new : Bytes
  pub is_computed : r ≡ Keyed new true
  pub one : Bytes
  pub own : OwnPair w c new k one
  pub why : (new ≡ key) ⊎ (is_over e (length own.includes) ≡ true)

module _ {V S : Type 0} (w : World V) (st : Store S) where
  -- a step is one that adds its result to the empty entry, and conversely
  abbrev pub StepIsFirst : Type 0
  StepIsFirst = (d : Done V) (s t : S) (r : CallResult) → Step w st d.call (Fault d) s r t ↔ StepOnto w st IsFirst d.call (Fault d) s r t

  -- so each run is one of calls that may add to held entries
  abbrev pub RunIsKeeping : Type 0
  RunIsKeeping = (s t : S) (done : List (Done V)) (call_results : List CallResult) → Run w st s done call_results t → RunKeeping w st s done call_results t

  -- and a sound store is sound for them
  abbrev pub SoundIsEach : Type 0
  SoundIsEach = (s : S) (earlier : List (Call V)) → Sound w st s earlier → SoundEach w st s earlier

  -- A call that adds its result to any results of earlier calls leaves a sound store sound. The store need not hold these when the call is made.
  abbrev pub StaysSoundOnto : Type 0
  StaysSoundOnto =
      (earlier : List (Call V)) (d : Done V) (s t : S) (r : CallResult) → SoundEach w st s earlier
      → StepOnto w st (EachOwn w earlier) d.call (Fault d) s r t → SoundEach w st t (earlier ++ d.call ∷ [])

  -- so does one that adds it to a held entry
  abbrev pub StaysSoundEach : Type 0
  StaysSoundEach =
      (earlier : List (Call V)) (d : Done V) (s t : S) (r : CallResult) → SoundEach w st s earlier → StepKeeping w st d.call (Fault d) s r t
      → SoundEach w st t (earlier ++ d.call ∷ [])

  -- a result of an entry that is held under the call's preprocessor key, whose included files are all unchanged
  pub record MatchesHeld (s : S) (c : Call V) (e : Entry) (key : Bytes) (list : List Include) : Type 0 where
    pub k : Bytes
    pub is_key : preprocessor_key_of w c ≡ Some k
    pub bytes : Bytes
    pub held : st.held s k bytes
    pub is_text : EntryText e bytes
    pub has : Contains (entries e) (key, list)
    pub all_match : list_all (matching w c) list ≡ true

  -- under the premises, the key of each such result of a sound store is the plain key
  abbrev pub MatchIsPlain : Type 0
  MatchIsPlain =
      (earlier later : List (Call V)) (c : Call V) (s : S) (e : Entry) (key : Bytes) (list : List Include) → Premises w (earlier ++ c ∷ later)
      → SoundEach w st s earlier → MatchesHeld s c e key list → plain_key w c ≡ Some key

  -- so any two of them have one key, also if they are of two entries
  abbrev pub MatchesAreOne : Type 0
  MatchesAreOne =
      (earlier later : List (Call V)) (c : Call V) (s : S) (e f : Entry) (a b : Bytes) (first second : List Include) → Premises w (earlier ++ c ∷ later)
      → SoundEach w st s earlier → MatchesHeld s c e a first → MatchesHeld s c f b second → a ≡ b

  -- under the premises, a key that is returned from a sound store is the plain key
  abbrev pub HitIsPlainEach : Type 0
  HitIsPlainEach =
      (earlier later : List (Call V)) (d : Done V) (s t : S) (key : Bytes) → Premises w (earlier ++ d.call ∷ later) → SoundEach w st s earlier
      → StepKeeping w st d.call (Fault d) s (Keyed key false) t → plain_key w d.call ≡ Some key

  -- a run, each of whose calls returns a stored key that matches if it can hit
  abbrev pub AllReturnStoredKeeping : S → List (Done V) → List CallResult → S → Type 0
  AllReturnStoredKeeping = Chain (λ d s r t. StepKeeping w st d.call (Fault d) s r t × ReturnsStored w (adding (IsHeldOrEmpty st s) st) d s r t)

  -- the headline, both halves, for calls that add to held entries
  abbrev pub HeadlineKeeping : Type 0
  HeadlineKeeping =
      (s t : S) (done : List (Done V)) (call_results : List CallResult) → RunKeeping w st s done call_results t
      → (IsEmpty w st s → Premises w (calls_of done) → AllZip (IsTransparent w) (calls_of done) call_results) × AllReturnStoredKeeping s done call_results t

  -- calls in order, each of which adds its result to any results of calls before it
  abbrev pub RunOnEarlier : List (Call V) → S → List (Done V) → List CallResult → S → Type 0
  RunOnEarlier earlier s [] [] t = t ≡ s
  RunOnEarlier earlier s (d ∷ ds) (r ∷ rs) t =
      (mid : S) × StepOnto w st (EachOwn w earlier) d.call (Fault d) s r mid × RunOnEarlier (earlier ++ d.call ∷ []) mid ds rs t
  RunOnEarlier earlier s _ _ t = ⊥

  -- the first half of the headline for such calls
  abbrev pub HeadlineOnEarlier : Type 0
  HeadlineOnEarlier =
      (earlier : List (Call V)) (s t : S) (done : List (Done V)) (call_results : List CallResult) → SoundEach w st s earlier
      → RunOnEarlier earlier s done call_results t → Premises w (earlier ++ calls_of done) → AllZip (IsTransparent w) (calls_of done) call_results

  -- After a miss an entry that is held alone under the preprocessor key has the new result. The conditions are that the key can be stored and that
  -- there was no store failure.
  abbrev pub NewIsHeld : Type 0
  NewIsHeld =
      (d : Done V) (s t : S) (k text key : Bytes) → CanStore w d k text → (StoreFailure st s t → ⊥) → StepKeeping w st d.call (Fault d) s (Keyed key true) t
      → (one : Bytes) × (own : OwnPair w d.call key k one) × (e : Entry) × HoldsResult st t k e key own.includes

  -- If a call adds its result to the entry that is held, a held result is held after the call, unless the call displaces it. There must be no
  -- store failure.
  abbrev pub ResultStays : Type 0
  ResultStays =
      (d : Done V) (s t : S) (r : CallResult) (k : Bytes) (e : Entry) (key : Bytes) (list : List Include) → HoldsResult st s k e key list
      → (StoreFailure st s t → ⊥) → StepOnto w st (IsHeldEntry st s t) d.call (Fault d) s r t
      → ((f : Entry) × HoldsResult st t k f key list) ⊎ Displaces w d.call r k e key

  -- A call that can hit, with a held result that matches and no store failure, returns the greatest key that matches.
  abbrev pub ResultIsReturned : Type 0
  ResultIsReturned =
      (d : Done V) (s t : S) (r : CallResult) (k : Bytes) (e : Entry) (key : Bytes) (list : List Include) → HoldsResult st s k e key list
      → list_all (matching w d.call) list ≡ true → CanHit w d k r → (StoreFailure st s t → ⊥) → StepKeeping w st d.call (Fault d) s r t
      → (greatest : Bytes) × (includes : List Include) × (found_in (matching w d.call) (entries e) ≡ Some (greatest, includes)) × (r ≡ Keyed greatest false)

  -- calls in order, each of which adds its result to the entry that is held
  abbrev pub RunOnHeld : S → List (Done V) → List CallResult → S → Type 0
  RunOnHeld = Chain (λ d s r t. StepOnto w st (IsHeldEntry st s t) d.call (Fault d) s r t)

  -- After a miss whose key can be stored, a later call that can hit, with the same preprocessor key, returns a stored key. The recorded files must
  -- be the same. Other calls between may have added results, and the one exception is that one of them displaced the first. There must be no
  -- store failure.
  abbrev pub StoredIsHitEach : Type 0
  StoredIsHitEach =
      (c d : Done V) (between : List (Done V)) (call_results : List CallResult) (s after before t : S) (k text key : Bytes) (r : CallResult)
      → CanStore w c k text → StepKeeping w st c.call (Fault c) s (Keyed key true) after
      → RunOnHeld after between call_results before
      → CanHit w d k r → SameRecords w c.call d.call text → StepKeeping w st d.call (Fault d) before r t
      → (StoreFailure st s t → ⊥)
      → ((greatest : Bytes) × (r ≡ Keyed greatest false))
      ⊎ ((x : Done V) × (q : CallResult) × (f : Entry) × Contains between x × Contains call_results q × Displaces w x.call q k f key)
