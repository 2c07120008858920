-- The laws of stored results.
use Rattle.std.proofs.Common.{◌≡◌, ◌≢◌, ℕ, ◌≤◌, ◌⊎◌, inl, inr, Bool, true, false, List, [], ◌∷◌, refl, sym, ap, ◌∙◌, cond, subst, arith, le_refl, le_trans, Option, Some, None, Ok, Err}
use Rattle.std.specs.Prelude.{Contains}
use Rattle.std.specs.FinMap.{empty, entries, insert}
use Rattle.std.specs.List.{AllZip, list_all}
use Rattle.std.specs.Option.{option_and_then, option_map}
use Rattle.std.proofs.lemmas.Option.{same_Some, none-some}
use Rattle.cck_entry.proofs.LawLemmas.{one_text_one_entry}
use Rattle.cck_entry.specs.Entry.{Entry, EntryText}
use Rattle.cck_entry.specs.Find.{found_in}
use Rattle.cck_entry.specs.Results.{KeyResult}
use Rattle.cck_files.specs.Calls.{Rose}
use Rattle.cck_include.specs.Include.{Include}
use Rattle.cck_include.specs.Recorded.{recorded}
use Rattle.cck_path.specs.Bytes.{Bytes}
use Rattle.cck_path.specs.Path.{components}
use Rattle.cck_util.specs.MapLemmas.{map_store_laws}
use Rattle.cck_util.specs.MapStore.{State, call_begun, map_store}
use Rattle.cck_util.specs.Store.{Returned, HoldsOnly, StoreFailure, Store, StoreLaws, Stored}
use Rattle.cck_util.specs.declared.store.StoreError.{StoreError}
use Rattle.cck_hasher.proofs.Elements.{all_pass, none_in}
use Rattle.c_cache_keys.proofs.HitPlain.{components-named}
use Rattle.cck_hasher.proofs.Includes.{entries-alone, match_by_digest}
use Rattle.c_cache_keys.proofs.KeySame.{key_known, material_known}
use Rattle.c_cache_keys.proofs.Verdicts.{refused_accepted, verdict_on}
use Rattle.cck_hasher.specs.Call.{CallResult, Call, Done, Fault, Keyed, ReturnsError, calls_of, Why, Memory}
use Rattle.c_cache_keys.specs.Hits.{CanStore, FreshIsHeld, HeldKeyIsReturned, IsUnrelated, MapStoreReturnsStored, SameRecords, StoredIsHit}
use Rattle.cck_hasher.specs.Keys.{input_file, input_recorded, preprocessor_key_of}
use Rattle.c_cache_keys.specs.Laws.{CanHit, StoredKeyIsReturned, RecacheIsFresh, RunReturnsStored}
use Rattle.cck_hasher.specs.Step.{Ends, Gives, Makes, OwnPair, Run, Step, Stores, StopsOpening, asked, damaged, extra_fault, faulted, found, gives, lacked, made, matched, matching, no_bytes, no_extra, no_key, no_used_input, none_recorded, nothing, opening_lacks, puts, refused, stopped, stops, store_failed, store_lacked, unmatched, used_input_fault}
use Rattle.cck_hasher.specs.Walk.{Accepted, AreRecorded, IsNamed, NotAccepted}
use Rattle.cck_hasher.specs.World.{World, setting}
use Rattle.cck_hasher.specs.declared.call.CacheControl.{CacheControl}
use Rattle.cck_hasher.specs.declared.call.CacheControl.TheVariants.{Default, ForceRecache}

-- a count that doesn't rise over several calls rises in none of them
pub calm_part : (a b c d : ℕ) → a ≤ b → b ≤ c → c ≤ d → (Rose a d → ⊥) → Rose b c → ⊥
calm_part a b c d ab bc cd calm (inl less) = calm (inl (omega arith))
calm_part a b c d ab bc cd calm (inr top) = calm (inr (omega arith))

pub not_failed : {key : Bytes} {fresh : Bool} {why : Why} → Keyed key fresh ≡ ReturnsError why → ⊥
not_failed e = cc

not_fresh : {key other : Bytes} → Keyed key true ≡ Keyed other false → ⊥
not_fresh e = cc

pub same_key : {key other : Bytes} {a b : Bool} → Keyed key a ≡ Keyed other b → key ≡ other
same_key e = cc

none_some : {A : Type 0} {o : Option A} {x : A} → o ≡ None → o ≡ Some x → ⊥
none_some e f = (none-some _ (sym e ∙ f))

pub not_both : ◌≡◌ {A = CacheControl} Default ForceRecache → ⊥
not_both e = cc

err_ok : {e : StoreError} {o : Option Bytes} → ◌≡◌ {A = Returned} (Err e) (Ok o) → ⊥
err_ok e = cc

none_bytes : {bytes : Bytes} → ◌≡◌ {A = Returned} (Ok None) (Ok (Some bytes)) → ⊥
none_bytes e = cc

same_bytes : {a b : Bytes} → ◌≡◌ {A = Returned} (Ok (Some a)) (Ok (Some b)) → a ≡ b
same_bytes e = cc

nothing_written : (x : ℕ) (bytes : Bytes) → [] ≡ x ∷ bytes → ⊥
nothing_written x bytes e = cc

-- what the store returned determines no computed key
pub none_computed : (test : Include → Bool) (F : Type 0) (returned : Returned) (key : Bytes) (o : Option CallResult) → o ≡ Some (Keyed key true) → Gives test F returned o → ⊥
none_computed test F returned key o is (store_failed at) = cc
none_computed test F returned key o is (store_lacked at) = cc
none_computed test F returned key o is (nothing at) = cc
none_computed test F returned key o is (no_bytes at) = cc
none_computed test F returned key o is (matched bytes other e includes at text present all which) = cc
none_computed test F returned key o is (unmatched bytes e at text which) = cc
none_computed test F returned key o is (damaged bytes at some none) = cc
none_computed test F returned key o is (lacked bytes at) = cc

-- the same bytes are of one entry
same_entry : (e f : Entry) (bytes : Bytes) → EntryText e bytes → EntryText f bytes → e ≡ f
same_entry e f bytes s t = (one_text_one_entry e f bytes bytes s t).0 refl

module _ {V : Type 0} (w : World V) where
  found_by : (c : Call V) (e : Entry) (o : Option KeyResult) → found_in (matching w c) (entries e) ≡ o → found w c e ≡ option_map (λ r. r.0) o
  unfolding found
  found_by c e o is = ap (option_map (λ (r : KeyResult). r.0)) is

  no_input_then : (c : Call V) (r : Bytes) → input_recorded w c ≡ Some r → input_file w c ≡ None → ⊥
  unfolding input_recorded
  no_input_then c r is missing = (none-some _ (ap (option_and_then (recorded (setting w c))) (sym missing) ∙ is))

  -- a call with a preprocessor key and no fault stops before the store is asked only for lack of memory
  not_stopped : (c : Call V) (F : Type 0) (k : Bytes) (why : Why) → preprocessor_key_of w c ≡ Some k → (F → ⊥) → StopsOpening w c F why → why ≡ Memory
  not_stopped c F k why is-k no_fault opening_lacks = refl
  not_stopped c F k why is-k no_fault (no_extra none) =
      let (m, is, same) = key_known w c k is-k in
      let (used, xs, r, is-xs, is-r, made-of) = material_known w c m is in
      absurd (none_some none is-xs)
  not_stopped c F k why is-k no_fault (extra_fault fault) = absurd (no_fault fault)
  not_stopped c F k why is-k no_fault (no_used_input extra used none) =
      let (m, is, same) = key_known w c k is-k in
      let (used', xs, r, is-xs, is-r, made-of) = material_known w c m is in
      absurd (no_input_then c r is-r none)
  not_stopped c F k why is-k no_fault (used_input_fault used fault) = absurd (no_fault fault)

  -- the result for bytes that are the text of an entry with a key that matches
  gives_found : (c : Call V) (F : Type 0) (returned : Returned) (e : Entry) (bytes key : Bytes) (o : Option CallResult) → (F → ⊥) → returned ≡ Ok (Some bytes) → EntryText e bytes → found w c e ≡ Some key
      → Gives (matching w c) F returned o → (o ≡ Some (Keyed key false)) ⊎ (o ≡ Some (ReturnsError Memory))
  gives_found c F returned e bytes key o no_fault at text is (store_failed failed) = absurd (err_ok (sym failed ∙ at))
  gives_found c F returned e bytes key o no_fault at text is (store_lacked failed) = absurd (err_ok (sym failed ∙ at))
  gives_found c F returned e bytes key o no_fault at text is (nothing none) = absurd (none_bytes (sym none ∙ at))
  gives_found c F returned e bytes key o no_fault at text is (no_bytes none) = absurd (nothing_written _ _ (same_bytes (sym none ∙ at) ∙ text.text))
  gives_found c F returned e bytes key o no_fault at text is (matched bytes' other f list at' text' present all which) =
      let same : f ≡ e = same_entry f e bytes (subst (EntryText f) (same_bytes (sym at' ∙ at)) text') text in
      elim which [
        | inl exact ↦ inl (ap (λ v. Some (Keyed v false)) (same_Some other key (sym (found_by c f (Some (other, list)) exact) ∙ ap (found w c) same ∙ is)))
        | inr fault ↦ absurd (no_fault fault)
      ]
  gives_found c F returned e bytes key o no_fault at text is (unmatched bytes' f at' text' which) =
      let same : f ≡ e = same_entry f e bytes (subst (EntryText f) (same_bytes (sym at' ∙ at)) text') text in
      elim which [
        | inl none ↦ absurd (none_some (sym (ap (found w c) same) ∙ found_by c f None none) is)
        | inr fault ↦ absurd (no_fault fault)
      ]
  gives_found c F returned e bytes key o no_fault at text is (damaged bytes' at' some none) = absurd (none e (subst (EntryText e) (same_bytes (sym at ∙ at')) text))
  gives_found c F returned e bytes key o no_fault at text is (lacked bytes' at') = inr refl

module _ {V S : Type 0} (w : World V) (st : Store S) where
  pub recache_is_fresh : RecacheIsFresh w st
  recache_is_fresh d s t key again (stopped why cause is same) = absurd (not_failed is)
  recache_is_fresh d s t key again (made opened not (stops why cause is same)) = absurd (not_failed is)
  recache_is_fresh d s t key again (made opened not (gives other is-plain is stores)) = absurd (not_fresh (sym is))
  recache_is_fresh d s t key again (asked opened k is-k control returned mid got o given ends) = absurd (not_both (sym control ∙ again))

  -- the result of a call after such a look-up
  ends_found : (c : Call V) (F : Type 0) (mid t : S) (r : CallResult) (key : Bytes) (o : Option CallResult) → r ≢ ReturnsError Memory → Ends w st c F o mid r t → (o ≡ Some (Keyed key false)) ⊎ (o ≡ Some (ReturnsError Memory)) → (r ≡ Keyed key false) × (t ≡ mid)
  ends_found c F mid t r key o enough ends (inl is) = subst (λ v. Ends w st c F v mid r t) is ends
  ends_found c F mid t r key o enough ends (inr is) = absurd (enough (subst (λ v. Ends w st c F v mid r t) is ends).0)

  returned_found : (c : Call V) (F : Type 0) (mid t : S) (r : CallResult) (o : Option CallResult) (returned : Returned) (bytes key : Bytes) (e : Entry) → (F → ⊥) → r ≢ ReturnsError Memory → Gives (matching w c) F returned o → Ends w st c F o mid r t
      → returned ≡ Ok (Some bytes) → EntryText e bytes → found w c e ≡ Some key → (r ≡ Keyed key false) × (t ≡ mid)
  returned_found c F mid t r o returned bytes key e no_fault enough given ends is text finds =
      ends_found c F mid t r key o enough ends (gives_found w c F returned e bytes key o no_fault is text finds given)

  returned_any : (c : Call V) (F : Type 0) (s t : S) (k : Bytes) (r : CallResult) → c.control ≡ Default → preprocessor_key_of w c ≡ Some k → (F → ⊥) → r ≢ ReturnsError Memory → Step w st c F s r t
      → (returned : Returned) × (mid : S) × st.got s k returned mid × (o : Option CallResult) × Gives (matching w c) F returned o × Ends w st c F o mid r t
  returned_any c F s t k r control is-k no_fault enough (stopped why cause is same) = absurd (enough (is ∙ ap ReturnsError (not_stopped w c F k why is-k no_fault cause)))
  returned_any c F s t k r control is-k no_fault enough (made opened not makes) =
      absurd (elim not [ inl none ↦ none_some none is-k | inr again ↦ not_both (sym control ∙ again) ])
  returned_any c F s t k r control is-k no_fault enough (asked opened k' is-k' control' returned mid got o given ends) =
      (returned, mid, subst (λ v. st.got s v returned mid) (same_Some k' k (sym is-k' ∙ is-k)) got, o, given, ends)

  pub stored_key_is_returned : StoredKeyIsReturned w st
  stored_key_is_returned d s t r step k can =
      let (returned, mid, got, o, given, ends) = returned_any d.call (Fault d) s t k r can.control can.key can.no_fault can.enough_memory step in
      (returned, mid, got, λ bytes key e includes is text finds. returned_found d.call (Fault d) mid t r o returned bytes key e can.no_fault can.enough_memory given ends is text (found_by w d.call e (Some (key, includes)) finds), o, given, ends)

  pub run_returns_stored : RunReturnsStored w st
  run_returns_stored s t [] [] run = run
  run_returns_stored s t [] (r ∷ call_results) run = absurd run
  run_returns_stored s t (d ∷ done) [] run = absurd run
  run_returns_stored s t (d ∷ done) (r ∷ call_results) run = (run.0, (run.1, stored_key_is_returned d s run.0 r run.1), run_returns_stored run.0 t done call_results run.2)

  -- a computed key that can be stored is put
  pub stores_own : (d : Done V) (s t : S) (k text key : Bytes) → CanStore w d k text → Stores w st d.call (Fault d) key s t
      → (bytes : Bytes) × OwnPair w d.call key k bytes × (stored : Stored) × st.put s k bytes stored t
  stores_own d s t k text key can (puts k' bytes own stored put) =
      let same : k' ≡ k = same_Some k' k (sym own.is_key ∙ can.key) in
      (bytes, subst (λ v. OwnPair w d.call key v bytes) same own, stored, subst (λ v. st.put s v bytes stored t) same put)
  stores_own d s t k text key can (no_key none same) = absurd (none_some none can.key)
  stores_own d s t k text key can (refused other prints walk same) = absurd (refused_accepted (verdict_on w d.call other text NotAccepted Accepted prints can.is_text walk can.accepted))
  stores_own d s t k text key can (none_recorded other prints walk none same) =
      let named = subst (λ v. IsNamed w d.call v can.path) (same_Some text other (sym can.is_text ∙ prints)) can.named in
      let (i, at, written) = none.all can.path can.node named can.file in
      absurd (none_in i at)
  stores_own d s t k text key can (faulted fault same) = absurd (can.no_fault fault)

module _ {V S : Type 0} (w : World V) (st : Store S) (laws : StoreLaws st) where
  abbrev Calm : S → S → Type 0
  Calm s t = StoreFailure st s t → ⊥

  -- ---- the count of store failures never falls

  stores_count : (c : Call V) (F : Type 0) (key : Bytes) (s t : S) → Stores w st c F key s t → st.failures s ≤ st.failures t
  stores_count c F key s t (puts k bytes own stored put) = laws.put_count s t k bytes stored put
  stores_count c F key s t (no_key none same) = rw same (le_refl _)
  stores_count c F key s t (refused text prints walk same) = rw same (le_refl _)
  stores_count c F key s t (none_recorded text prints walk none same) = rw same (le_refl _)
  stores_count c F key s t (faulted fault same) = rw same (le_refl _)

  makes_count : (c : Call V) (F : Type 0) (s t : S) (r : CallResult) → Makes w st c F s r t → st.failures s ≤ st.failures t
  makes_count c F s t r (stops why cause is same) = rw same (le_refl _)
  makes_count c F s t r (gives key is-plain is stores) = stores_count c F key s t stores

  ends_count : (c : Call V) (F : Type 0) (o : Option CallResult) (s t : S) (r : CallResult) → Ends w st c F o s r t → st.failures s ≤ st.failures t
  ends_count c F (Some x) s t r e = rw (e.1) (le_refl _)
  ends_count c F None s t r e = makes_count c F s t r e

  step_count : (c : Call V) (F : Type 0) (s t : S) (r : CallResult) → Step w st c F s r t → st.failures s ≤ st.failures t
  step_count c F s t r (stopped why cause is same) = rw same (le_refl _)
  step_count c F s t r (made opened not makes) = makes_count c F s t r makes
  step_count c F s t r (asked opened k is-k control returned mid got o given ends) = le_trans (laws.got_count s mid k returned got) (ends_count c F o mid t r ends)

  run_count : (calls : List (Done V)) (call_results : List CallResult) (s t : S) → Run w st s calls call_results t → st.failures s ≤ st.failures t
  run_count [] [] s t run = rw run (le_refl _)
  run_count [] (r ∷ call_results) s t run = absurd run
  run_count (c ∷ calls) [] s t run = absurd run
  run_count (c ∷ calls) (r ∷ call_results) s t run = le_trans (step_count c.call (Fault c) s run.0 r run.1) (run_count calls call_results run.0 t run.2)

  -- ---- what a miss leaves

  abbrev HeldSo : Call V → S → Bytes → Bytes → Type 0
  HeldSo c t k key = (bytes : Bytes) × OwnPair w c key k bytes × HoldsOnly st t k bytes

  stores_held : (d : Done V) (s t : S) (k text key : Bytes) → CanStore w d k text → Calm s t → Stores w st d.call (Fault d) key s t → HeldSo d.call t k key
  stores_held d s t k text key can calm stores =
      let (bytes, own, stored, put) = stores_own w st d s t k text key can stores in
      (bytes, own, laws.put_new s t k bytes stored put calm)

  makes_held : (d : Done V) (s t : S) (k text key : Bytes) → CanStore w d k text → Calm s t → Makes w st d.call (Fault d) s (Keyed key true) t → HeldSo d.call t k key
  makes_held d s t k text key can calm (stops why cause is same) = absurd (not_failed is)
  makes_held d s t k text key can calm (gives other is-plain is stores) = subst (λ v. HeldSo d.call t k v) (sym (same_key is)) (stores_held d s t k text other can calm stores)

  held_any : (d : Done V) (s t : S) (k text key : Bytes) → CanStore w d k text → Calm s t → Step w st d.call (Fault d) s (Keyed key true) t → HeldSo d.call t k key
  held_any d s t k text key can calm (stopped why cause is same) = absurd (not_failed is)
  held_any d s t k text key can calm (made opened not makes) = makes_held d s t k text key can calm makes
  held_any d s t k text key can calm (asked opened k' is-k' control returned mid got o given ends) = go o given ends
    where
      go : (o : Option CallResult) → Gives (matching w d.call) (Fault d) returned o → Ends w st d.call (Fault d) o mid (Keyed key true) t → HeldSo d.call t k key
      go (Some x) given e = absurd (none_computed (matching w d.call) (Fault d) returned key (Some x) (ap (λ v. Some v) (sym e.0)) given)
      go None given e = makes_held d mid t k text key can
          (calm_part _ _ _ _ (laws.got_count s mid k' returned got) (makes_count d.call (Fault d) mid t _ e) (le_refl _) calm) e

  pub fresh_is_held : FreshIsHeld w st
  fresh_is_held d s t k text key can calm step = held_any d s t k text key can calm step

  -- ---- what is returned of what is held

  returned_held : (c : Call V) (F : Type 0) (s mid t : S) (r : CallResult) (k bytes : Bytes) (o : Option CallResult) (returned : Returned) → (F → ⊥) → r ≢ ReturnsError Memory → Calm s mid → st.held s k bytes
      → ((x : Bytes) → st.held s k x → (e : Entry) × EntryText e x × (key : Bytes) × (found w c e ≡ Some key))
      → st.got s k returned mid → Gives (matching w c) F returned o → Ends w st c F o mid r t
      → (key : Bytes) × (x : Bytes) × (e : Entry) × st.held s k x × EntryText e x × (found w c e ≡ Some key) × (r ≡ Keyed key false)
  returned_held c F s mid t r k bytes o (Err e) no_fault enough calm held each got given ends = absurd (calm (laws.got_error s mid k e got))
  returned_held c F s mid t r k bytes o (Ok None) no_fault enough calm held each got given ends = absurd (laws.got_none s mid k got calm bytes held)
  returned_held c F s mid t r k bytes o (Ok (Some x)) no_fault enough calm held each got given ends =
      let now = laws.got_some s mid k x got in
      let (e, text, key, finds) = each x now in
      (key, x, e, now, text, finds, (returned_found w st c F mid t r o (Ok (Some x)) x key e no_fault enough given ends refl text finds).0)

  pub held_key_is_returned : HeldKeyIsReturned w st
  held_key_is_returned d s t r k bytes can calm held each step =
      let (returned, mid, got, o, given, ends) = returned_any w st d.call (Fault d) s t k r can.control can.key can.no_fault can.enough_memory step in
      returned_held d.call (Fault d) s mid t r k bytes o returned can.no_fault can.enough_memory
      (calm_part _ _ _ _ (le_refl _) (laws.got_count s mid k returned got) (ends_count d.call (Fault d) o mid t r ends) calm) held each got given ends

  -- ---- what the calls between leave of what is held

  abbrev Kept : S → S → Bytes → Bytes → Type 0
  Kept s t k b = HoldsOnly st s k b → HoldsOnly st t k b

  same_only : (s t : S) (k b : Bytes) → t ≡ s → Kept s t k b
  same_only s t k b is only = subst (λ v. HoldsOnly st v k b) (sym is) only

  stores_only : (c : Call V) (F : Type 0) (key : Bytes) (s t : S) (k b : Bytes) → Calm s t → preprocessor_key_of w c ≢ Some k → Stores w st c F key s t → Kept s t k b
  stores_only c F key s t k b calm other (puts k' bytes own stored put) = λ only.
      let apart : k ≡ k' → ⊥ = λ e. other (own.is_key ∙ ap Some (sym e)) in (
        laws.put_calm s t k' bytes stored put calm k b apart only.0,
        λ x h. elim (laws.put_old s t k' bytes stored put k x h) [ inl old ↦ only.1 x old | inr is ↦ absurd (apart is.0) ],
      )
  stores_only c F key s t k b calm other (no_key none same) = same_only s t k b same
  stores_only c F key s t k b calm other (refused text prints walk same) = same_only s t k b same
  stores_only c F key s t k b calm other (none_recorded text prints walk none same) = same_only s t k b same
  stores_only c F key s t k b calm other (faulted fault same) = same_only s t k b same

  makes_only : (c : Call V) (F : Type 0) (s t : S) (r : CallResult) (k b : Bytes) → Calm s t → IsUnrelated w k c r → Makes w st c F s r t → Kept s t k b
  makes_only c F s t r k b calm saved (stops why cause is same) = same_only s t k b same
  makes_only c F s t r k b calm saved (gives key is-plain is stores) = stores_only c F key s t k b calm (saved key is) stores

  ends_only : (c : Call V) (F : Type 0) (o : Option CallResult) (s t : S) (r : CallResult) (k b : Bytes) → Calm s t → IsUnrelated w k c r → Ends w st c F o s r t → Kept s t k b
  ends_only c F (Some x) s t r k b calm saved e = same_only s t k b e.1
  ends_only c F None s t r k b calm saved e = makes_only c F s t r k b calm saved e

  step_only : (c : Call V) (F : Type 0) (s t : S) (r : CallResult) (k b : Bytes) → Calm s t → IsUnrelated w k c r → Step w st c F s r t → Kept s t k b
  step_only c F s t r k b calm saved (stopped why cause is same) = same_only s t k b same
  step_only c F s t r k b calm saved (made opened not makes) = makes_only c F s t r k b calm saved makes
  step_only c F s t r k b calm saved (asked opened k' is-k' control returned mid got o given ends) =
      λ only.
      let up = laws.got_count s mid k' returned got in
      let on = ends_count c F o mid t r ends in
      ends_only c F o mid t r k b (calm_part _ _ _ _ up on (le_refl _) calm) saved ends (
        laws.got_calm s mid k' returned got (calm_part _ _ _ _ (le_refl _) up on calm) k b only.0,
        λ x h. only.1 x (laws.got_old s mid k' returned got k x h),
      )

  run_only : (calls : List (Done V)) (call_results : List CallResult) (s t : S) (k b : Bytes) → Calm s t → AllZip (IsUnrelated w k) (calls_of calls) call_results → Run w st s calls call_results t → Kept s t k b
  run_only [] [] s t k b calm saved run = same_only s t k b run
  run_only [] (r ∷ call_results) s t k b calm saved run = absurd run
  run_only (c ∷ calls) [] s t k b calm saved run = absurd run
  run_only (c ∷ calls) (r ∷ call_results) s t k b calm saved run =
      λ only.
      let up = step_count c.call (Fault c) s run.0 r run.1 in
      let on = run_count calls call_results run.0 t run.2 in
      run_only calls call_results run.0 t k b (calm_part _ _ _ _ up on (le_refl _) calm) saved.1 run.2
      (step_only c.call (Fault c) s run.0 r k b (calm_part _ _ _ _ (le_refl _) up on calm) saved.0 run.1 only)

  -- ---- the law of hits

  -- what was recorded of the earlier call matches in the later one
  pub record_matches : (c d : Call V) (text : Bytes) (includes : List Include) → AreRecorded w c text includes → SameRecords w c d text → (i : Include) → Contains includes i → matching w d i ≡ true
  record_matches c d text includes are same i at =
      let r = are.each i at in
      let (o, file, size, digests) = same r.path r.node r.named r.file in
      match_by_digest (setting w d) d.files i r.path o (ap components r.written ∙ components-named w c text r.path r.named) file (size ∙ sym r.size) (digests ∙ r.digest)

  -- so the entry of that result alone has a key that matches
  own_found : (c d : Call V) (key text : Bytes) (includes : List Include) → AreRecorded w c text includes → SameRecords w c d text → found w d (insert empty key includes) ≡ Some key
  own_found c d key text includes are same =
      let all : list_all (matching w d) includes ≡ true = all_pass (matching w d) includes (record_matches c d text includes are same) in
      found_by w d (insert empty key includes) (Some (key, includes))
      (ap (found_in (matching w d)) (entries-alone key includes) ∙ ap (λ b. cond b (Some (key, includes)) None) all)

  pub stored_is_hit : StoredIsHit w st
  stored_is_hit c d between call_results s after before t k text key r can first run saved can_hit same last calm =
      let up = step_count c.call (Fault c) s after (Keyed key true) first in
      let mid = run_count between call_results after before run in
      let on = step_count d.call (Fault d) before t r last in
      let (bytes, own, only) = fresh_is_held c s after k text key can (calm_part _ _ _ _ (le_refl _) up (le_trans mid on) calm) first in
      let at = run_only between call_results after before k bytes (calm_part _ _ _ _ up mid on calm) saved run only in
      finish bytes own at (calm_part _ _ _ _ (le_trans up mid) on (le_refl _) calm)
    where
      finish : (bytes : Bytes) → OwnPair w c.call key k bytes → HoldsOnly st before k bytes → Calm before t → r ≡ Keyed key false
      finish bytes own at inner =
          let alone : Entry = insert empty key own.includes in
          let finds = own_found c.call d.call key own.text own.includes own.recorded (subst (SameRecords w c.call d.call) (same_Some text own.text (sym can.is_text ∙ own.is_text)) same) in
          let (key', x, e, held, text', finds', is) = held_key_is_returned d before t r k bytes can_hit inner at.0 (λ x h. (alone, subst (EntryText alone) (sym (at.1 x h)) own.is_entry, key, finds)) last in
          is ∙ ap (λ v. Keyed v false) (same_Some key' key (sym finds' ∙ ap (found w d.call) (same_entry e alone bytes (subst (EntryText e) (at.1 x held) text') own.is_entry) ∙ finds))

-- ---- a store in memory

module _ {V : Type 0} (w : World V) (d : Done V) (s : State) (r : CallResult) (k bytes key : Bytes) (e : Entry) (can : CanHit w d k r) (held : map_store.held s k bytes) (text : EntryText e bytes) (finds : found w d.call e ≡ Some key) where
  from_map : (mid t : State) (o : Option CallResult) (returned : Returned) → (StoreFailure map_store s mid → ⊥) → map_store.got s k returned mid → Gives (matching w d.call) (Fault d) returned o → Ends w map_store d.call (Fault d) o mid r t
      → (r ≡ Keyed key false) × (t ≡ call_begun s)
  from_map mid t o (Err failure) calm got given ends = absurd (calm (map_store_laws.got_error s mid k failure got))
  from_map mid t o (Ok None) calm got given ends = absurd (map_store_laws.got_none s mid k got calm bytes held)
  from_map mid t o (Ok (Some x)) calm got given ends =
      let same : x ≡ bytes = same_Some x bytes (sym (map_store_laws.got_some s mid k x got) ∙ held) in
      let (is, at) = returned_found w map_store d.call (Fault d) mid t r o (Ok (Some x)) x key e can.no_fault can.enough_memory given ends refl (subst (EntryText e) (sym same) text) finds in
      (is, at ∙ got.2)

  held_by_map : (t : State) → (StoreFailure map_store s t → ⊥) → Step w map_store d.call (Fault d) s r t → (r ≡ Keyed key false) × (t ≡ call_begun s)
  held_by_map t calm step =
      let (returned, mid, got, o, given, ends) = returned_any w map_store d.call (Fault d) s t k r can.control can.key can.no_fault can.enough_memory step in
      let up = map_store_laws.got_count s mid k returned got in
      from_map mid t o returned (calm_part _ _ _ _ (le_refl _) up (ends_count w map_store map_store_laws d.call (Fault d) o mid t r ends) calm) got given ends

pub map_store_returns_stored : {V : Type 0} (w : World V) → MapStoreReturnsStored w
map_store_returns_stored w d s t r k bytes key e can calm held text finds step = held_by_map w d s r k bytes key e can held text finds t calm step
