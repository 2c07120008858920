-- what one call may return and do to the store, and what a list of calls may
use Rattle.std.specs.Prelude.{◌≡◌, ◌≢◌, ◌⊎◌, List, [], ◌∷◌, Bool, true, false, Option, Some, None, Ok, Err, Contains}
use Rattle.std.specs.FinMap.{empty, entries, insert}
use Rattle.std.specs.List.{list_all}
use Rattle.std.specs.Option.{option_map}
use Rattle.cck_path.specs.Bytes.{Bytes}
use Rattle.cck_entry.specs.Entry.{Entry, EntryText}
use Rattle.cck_entry.specs.Find.{found_in}
use Rattle.cck_include.specs.Include.{Include}
use Rattle.cck_entry.specs.Matching.{matches}
use Rattle.cck_util.specs.Store.{Returned, Store, Stored}
use Rattle.cck_util.specs.declared.store.StoreError.TheVariants as store
use Rattle.cck_hasher.specs.Call.{CallResult, Call, Done, Fault, Keyed, ReturnsError, Why, Memory, Extra, ExtraFault, Input, InputFault, Store as StoreFails, Damaged, NoText, TextFault, Marker}
use Rattle.cck_util.specs.Language.{is_preprocessed_first}
use Rattle.cck_hasher.specs.Keys.{extra_texts, input_file, plain_key, preprocessor_key_of, printed, uses_cache}
use Rattle.cck_hasher.specs.Walk.{Accepted, AreRecorded, Errs, NotAccepted, Walk}
use Rattle.cck_hasher.specs.World.{World, setting}
use Rattle.cck_hasher.specs.declared.call.CacheControl.TheVariants.{Default, ForceRecache}

-- What a get returned, and the result of the call where that determines it; with none the key is computed. A stored key is the greatest key
-- of the entry whose included files are all unchanged. After a fault it may be another such key, or none is found. Once there are bytes memory
-- may be lacking. The test says which included files are unchanged; nothing else of a call is used. Here and below F says that there was a fault.
pub data Gives (test : Include → Bool) (F : Type 0) (returned : Returned) : Option CallResult → Type 0 where
  store_failed : returned ≡ Err store.Fault → Gives test F returned (Some (ReturnsError StoreFails))
  store_lacked : returned ≡ Err store.Memory → Gives test F returned (Some (ReturnsError Memory))
  nothing : returned ≡ Ok None → Gives test F returned None
  no_bytes : returned ≡ Ok (Some []) → Gives test F returned None
  matched : (bytes key : Bytes) (e : Entry) (includes : List Include) → returned ≡ Ok (Some bytes) → EntryText e bytes → Contains (entries e) (key, includes)
      → list_all test includes ≡ true → (found_in test (entries e) ≡ Some (key, includes)) ⊎ F → Gives test F returned (Some (Keyed key false))
  unmatched : (bytes : Bytes) (e : Entry) → returned ≡ Ok (Some bytes) → EntryText e bytes → (found_in test (entries e) ≡ None) ⊎ F → Gives test F returned None
  damaged : (bytes : Bytes) → returned ≡ Ok (Some bytes) → bytes ≢ [] → ((e : Entry) → EntryText e bytes → ⊥) → Gives test F returned (Some (ReturnsError Damaged))
  lacked : (bytes : Bytes) → returned ≡ Ok (Some bytes) → Gives test F returned (Some (ReturnsError Memory))

-- pairs from two lists, each leading from the state that the one before it left
abbrev pub Chain : {D R S : Type 0} → (D → S → R → S → Type 0) → S → List D → List R → S → Type 0
Chain P s [] [] t = t ≡ s
Chain {S = S} P s (d ∷ ds) (r ∷ rs) t = (mid : S) × P d s r mid × Chain P mid ds rs t
Chain P s _ _ t = ⊥

module _ {V : Type 0} (w : World V) where
  -- an included file is unchanged, for this call
  abbrev pub matching : Call V → Include → Bool
  matching c = matches (setting w c) c.files

  -- the greatest key of an entry whose included files are all unchanged, if there is one
  unfoldable pub found : Call V → Entry → Option Bytes
  found c e = option_map (λ r. r.0) (found_in (matching c) (entries e))

  -- why a call returns an error before the store is asked
  pub data StopsOpening (c : Call V) (F : Type 0) : Why → Type 0 where
    opening_lacks : StopsOpening c F Memory
    no_extra : extra_texts w c ≡ None → StopsOpening c F Extra
    extra_fault : F → StopsOpening c F ExtraFault
    no_used_input : extra_texts w c ≢ None → uses_cache w c.request ≡ true → input_file w c ≡ None → StopsOpening c F Input
    used_input_fault : uses_cache w c.request ≡ true → F → StopsOpening c F InputFault

  -- all extra files have digests, and where the preprocessor cache is used the input is a regular file
  pub record Opened (c : Call V) : Type 0 where
    pub extra : extra_texts w c ≢ None
    pub input : uses_cache w c.request ≡ true → input_file w c ≢ None

  -- The pair is the call's own: its preprocessor key, and the text of the entry that has its plain key alone. The included files of this
  -- key are all regular files that the text names, at least one.
  pub record OwnPair (c : Call V) (key k bytes : Bytes) : Type 0 where
    pub is_key : preprocessor_key_of w c ≡ Some k
    pub is_plain : plain_key w c ≡ Some key
    pub text : Bytes
    pub is_text : printed w c ≡ Some text
    pub accepted : Walk w c text Accepted
    pub includes : List Include
    pub recorded : AreRecorded w c text includes
    pub some : includes ≢ []
    pub is_entry : EntryText (insert empty key includes) bytes

  -- why a call returns an error while its key is computed
  pub data StopsMaking (c : Call V) (F : Type 0) : Why → Type 0 where
    making_lacks : StopsMaking c F Memory
    no_text : is_preprocessed_first c.request.arguments.language ≡ true → printed w c ≡ None → StopsMaking c F NoText
    text_fault : is_preprocessed_first c.request.arguments.language ≡ true → F → StopsMaking c F TextFault
    no_input : is_preprocessed_first c.request.arguments.language ≡ false → input_file w c ≡ None → StopsMaking c F Input
    input_fault : is_preprocessed_first c.request.arguments.language ≡ false → F → StopsMaking c F InputFault
    marker : preprocessor_key_of w c ≢ None → (text : Bytes) → printed w c ≡ Some text → Walk w c text Errs → StopsMaking c F Marker

module _ {V S : Type 0} (w : World V) (st : Store S) where
  -- What is stored of a computed key. The call's own pair is put, once. Or nothing is put: the call has no preprocessor key, its text is
  -- refused, its text is accepted and names no regular file, or there was a fault. So no key is computed where a malformed marker decides, but
  -- where there was a fault, by which the walk may have ended before that marker.
  pub data Stores (c : Call V) (F : Type 0) (key : Bytes) (s t : S) : Type 0 where
    puts : (k bytes : Bytes) → OwnPair w c key k bytes → (stored : Stored) → st.put s k bytes stored t → Stores c F key s t
    no_key : preprocessor_key_of w c ≡ None → t ≡ s → Stores c F key s t
    refused : (text : Bytes) → printed w c ≡ Some text → Walk w c text NotAccepted → t ≡ s → Stores c F key s t
    none_recorded : (text : Bytes) → printed w c ≡ Some text → Walk w c text Accepted → AreRecorded w c text [] → t ≡ s → Stores c F key s t
    faulted : F → t ≡ s → Stores c F key s t

  -- the key is computed: there is an error and nothing is put, or it is the plain key
  pub data Makes (c : Call V) (F : Type 0) (s : S) (r : CallResult) (t : S) : Type 0 where
    stops : (why : Why) → StopsMaking w c F why → r ≡ ReturnsError why → t ≡ s → Makes c F s r t
    gives : (key : Bytes) → plain_key w c ≡ Some key → r ≡ Keyed key true → Stores c F key s t → Makes c F s r t

  -- what follows that result, and what follows where there is none
  abbrev pub Ends : Call V → Type 0 → Option CallResult → S → CallResult → S → Type 0
  Ends c F (Some result) mid r t = (r ≡ result) × (t ≡ mid)
  Ends c F None mid r t = Makes c F mid r t

  -- One call. It may return an error before the store is asked. If it has no preprocessor key or may not ask, it computes its key.
  -- Otherwise it asks once, and computes its key if what the store returned determines no result.
  pub data Step (c : Call V) (F : Type 0) (s : S) (r : CallResult) (t : S) : Type 0 where
    stopped : (why : Why) → StopsOpening w c F why → r ≡ ReturnsError why → t ≡ s → Step c F s r t
    made : Opened w c → (preprocessor_key_of w c ≡ None) ⊎ (c.control ≡ ForceRecache) → Makes c F s r t → Step c F s r t
    asked : Opened w c → (k : Bytes) → preprocessor_key_of w c ≡ Some k → c.control ≡ Default → (returned : Returned) (mid : S) → st.got s k returned mid
        → (o : Option CallResult) → Gives (matching w c) F returned o → Ends c F o mid r t → Step c F s r t

  -- calls in order, each starting where the one before it ended
  abbrev pub Run : S → List (Done V) → List CallResult → S → Type 0
  Run = Chain (λ d. Step d.call (Fault d))

  -- each held pair is the own pair of an earlier call
  abbrev pub Sound : S → List (Call V) → Type 0
  Sound s earlier = (k bytes : Bytes) → st.held s k bytes → (c : Call V) × Contains earlier c × (key : Bytes) × OwnPair w c key k bytes

  abbrev pub IsEmpty : S → Type 0
  IsEmpty s = (k bytes : Bytes) → st.held s k bytes → ⊥
