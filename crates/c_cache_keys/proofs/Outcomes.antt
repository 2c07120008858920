-- What a step comes to, whatever its store.
use Rattle.std.proofs.Common.{◌≡◌, ◌⊎◌, inl, inr, Bool, true, false, List, [], refl, sym, ap, ◌∙◌, subst, Option, None, Some, Ok}
use Rattle.std.specs.Prelude.{Contains}
use Rattle.std.specs.FinMap.{entries}
use Rattle.std.specs.List.{list_all}
use Rattle.cck_entry.specs.Entry.{Entry, EntryText}
use Rattle.cck_entry.specs.Find.{found_in}
use Rattle.cck_include.specs.Include.{Include}
use Rattle.cck_path.specs.Bytes.{Bytes}
use Rattle.cck_util.specs.Store.{Returned, Store, Stored}
use Rattle.c_cache_keys.proofs.Runs.{nothing_damaged}
use Rattle.c_cache_keys.proofs.Stored.{none_computed, not_failed}
use Rattle.cck_hasher.specs.Call.{Call, CallResult, Damaged, Done, Fault, Keyed, ReturnsError, Why}
use Rattle.cck_hasher.specs.Keys.{plain_key, preprocessor_key_of}
use Rattle.cck_hasher.specs.Step.{Ends, Gives, Makes, OwnPair, Step, Stores, asked, damaged, faulted, gives, lacked, made, matched, matching, no_bytes, no_key, none_recorded, nothing, puts, refused, stopped, stops, store_failed, store_lacked, unmatched}
use Rattle.cck_hasher.specs.World.{HasSize, World}
use Rattle.c_cache_keys.proofs.SnapshotHits.{made_fresh}
use Rattle.c_cache_keys.specs.LastPut.{last_put, last_put_laws}

error_key : {why : Why} {key : Bytes} → Some (ReturnsError why) ≡ Some (Keyed key false) → ⊥
error_key e = cc

none_key : {key : Bytes} → None ≡ Some (Keyed key false) → ⊥
none_key e = cc

one_key : {key other : Bytes} → Some (Keyed key false) ≡ Some (Keyed other false) → key ≡ other
one_key e = cc

-- ---- what was given

module _ (test : Include → Bool) (F : Type 0) (returned : Returned) where
  -- a stored key is that of a result of returned bytes
  pub record GivesHit (key : Bytes) : Type 0 where
    pub bytes : Bytes
    pub e : Entry
    pub list : List Include
    pub is : returned ≡ Ok (Some bytes)
    pub text : EntryText e bytes
    pub has : Contains (entries e) (key, list)
    pub all : list_all test list ≡ true
    pub which : (found_in test (entries e) ≡ Some (key, list)) ⊎ F

  pub given_hit : (key : Bytes) (o : Option CallResult) → o ≡ Some (Keyed key false) → Gives test F returned o → GivesHit key
  given_hit key o same (store_failed is) = absurd (error_key same)
  given_hit key o same (store_lacked is) = absurd (error_key same)
  given_hit key o same (nothing is) = absurd (none_key same)
  given_hit key o same (no_bytes is) = absurd (none_key same)
  given_hit key o same (matched bytes other e list is text has all which) =
      subst GivesHit (one_key same) (record { bytes = bytes; e = e; list = list; is = is; text = text; has = has; all = all; which = which })
  given_hit key o same (unmatched bytes e is text which) = absurd (none_key same)
  given_hit key o same (damaged bytes is some none) = absurd (error_key same)
  given_hit key o same (lacked bytes is) = absurd (error_key same)

  -- and returned bytes that are no entry are the cause of that error
  abbrev pub GivesDamaged : Type 0
  GivesDamaged = (bytes : Bytes) × (returned ≡ Ok (Some bytes)) × ((e : Entry) → EntryText e bytes → ⊥)

  pub given_damaged : (o : Option CallResult) → o ≡ Some (ReturnsError Damaged) → Gives test F returned o → GivesDamaged
  given_damaged o same (store_failed is) = cc
  given_damaged o same (store_lacked is) = cc
  given_damaged o same (nothing is) = cc
  given_damaged o same (no_bytes is) = cc
  given_damaged o same (matched bytes other e list is text has all which) = cc
  given_damaged o same (unmatched bytes e is text which) = cc
  given_damaged o same (damaged bytes is some none) = (bytes, is, none)
  given_damaged o same (lacked bytes is) = cc

-- ---- steps

module _ {V S : Type 0} (w : World V) (st : Store S) (c : Call V) (F : Type 0) (s : S) where
  -- the store was not asked, or once
  abbrev pub Reaches : S → Type 0
  Reaches mid = (mid ≡ s) ⊎ ((k : Bytes) × (returned : Returned) × st.got s k returned mid)

  -- no key is computed and nothing is put, or the plain key is computed
  pub data Comes (r : CallResult) (t : S) : Type 0 where
    leaves : (mid : S) → Reaches mid → t ≡ mid → ((key : Bytes) → r ≡ Keyed key true → ⊥) → Comes r t
    computes : (key : Bytes) (mid : S) → Reaches mid → r ≡ Keyed key true → plain_key w c ≡ Some key → Stores w st c F key mid t → Comes r t

  pub makes_comes : (mid t : S) (r : CallResult) → Reaches mid → Makes w st c F mid r t → Comes r t
  makes_comes mid t r reached (stops why cause is same) = leaves mid reached same (λ key e. not_failed (sym e ∙ is))
  makes_comes mid t r reached (gives key plain is stores) = computes key mid reached is plain stores

  ends_comes : (k : Bytes) (returned : Returned) (mid t : S) (r : CallResult) (o : Option CallResult) → st.got s k returned mid → Gives (matching w c) F returned o → Ends w st c F o mid r t → Comes r t
  ends_comes k returned mid t r (Some x) got given ends =
      leaves mid (inr (k, returned, got)) ends.1 (λ key e. none_computed (matching w c) F returned key (Some x) (ap (λ v. Some v) (sym ends.0 ∙ e)) given)
  ends_comes k returned mid t r None got given ends = makes_comes mid t r (inr (k, returned, got)) ends

  pub step_comes : (r : CallResult) (t : S) → Step w st c F s r t → Comes r t
  step_comes r t (stopped why cause is same) = leaves s (inl refl) same (λ key e. not_failed (sym e ∙ is))
  step_comes r t (made opened not makes) = makes_comes s t r (inl refl) makes
  step_comes r t (asked opened k is-k control returned mid got o given ends) = ends_comes k returned mid t r o got given ends

  -- nothing is put, or the own pair
  abbrev pub Puts : Bytes → S → S → Type 0
  Puts key mid t = (t ≡ mid) ⊎ ((k : Bytes) × (bytes : Bytes) × OwnPair w c key k bytes × (stored : Stored) × st.put mid k bytes stored t)

  pub stores_puts : (key : Bytes) (mid t : S) → Stores w st c F key mid t → Puts key mid t
  stores_puts key mid t (puts k bytes own stored put) = inr (k, bytes, own, stored, put)
  stores_puts key mid t (no_key none same) = inl same
  stores_puts key mid t (refused text prints walk same) = inl same
  stores_puts key mid t (none_recorded text prints walk none same) = inl same
  stores_puts key mid t (faulted fault same) = inl same

  -- a key that is returned from the store
  pub record IsHit (key : Bytes) : Type 0 where
    pub k : Bytes
    pub is_key : preprocessor_key_of w c ≡ Some k
    pub returned : Returned
    pub mid : S
    pub got : st.got s k returned mid
    pub hit : GivesHit (matching w c) F returned key

  pub step_hit : (key : Bytes) (t : S) → Step w st c F s (Keyed key false) t → IsHit key
  step_hit key t (stopped why cause is same) = absurd (not_failed is)
  step_hit key t (made opened not makes) = absurd (made_fresh w st c F s t key makes)
  step_hit key t (asked opened k is-k control returned mid got o given ends) = go o given ends
    where
      go : (o : Option CallResult) → Gives (matching w c) F returned o → Ends w st c F o mid (Keyed key false) t → IsHit key
      go (Some x) given ends =
          record { k = k; is_key = is-k; returned = returned; mid = mid; got = got; hit = given_hit (matching w c) F returned key (Some x) (ap (λ v. Some v) (sym ends.0)) given }
      go None given ends = absurd (made_fresh w st c F mid t key ends)

-- ---- errors

module _ {V S : Type 0} (w : World V) (size : HasSize w.hash) (st : Store S) (d : Done V) where
  -- no such error comes where nothing is held
  nowhere_damaged : Step w last_put d.call (Fault d) (Some None) (ReturnsError Damaged) (Some None) → ⊥
  nowhere_damaged step = nothing_damaged w last_put size last_put_laws [] d (Some None) (Some None) (λ k b held. absurd held) step

  same_why : {why other : Why} → ReturnsError why ≡ ReturnsError other → why ≡ other
  same_why e = cc

  makes_nowhere : (mid t : S) → Makes w st d.call (Fault d) mid (ReturnsError Damaged) t → Makes w last_put d.call (Fault d) (Some None) (ReturnsError Damaged) (Some None)
  makes_nowhere mid t (stops why cause is same) = stops why cause is refl
  makes_nowhere mid t (gives key plain is stores) = absurd (not_failed (sym is))

  -- the bytes that are no entry were returned by the store
  pub step_damaged : (s t : S) → Step w st d.call (Fault d) s (ReturnsError Damaged) t
      → (k : Bytes) × (returned : Returned) × (mid : S) × st.got s k returned mid × GivesDamaged (matching w d.call) (Fault d) returned
  step_damaged s t (stopped why cause is same) = absurd (nowhere_damaged (stopped why cause is refl))
  step_damaged s t (made opened not makes) = absurd (nowhere_damaged (made opened not (makes_nowhere s t makes)))
  step_damaged s t (asked opened k is-k control returned mid got o given ends) = go o given ends
    where
      go : (o : Option CallResult) → Gives (matching w d.call) (Fault d) returned o → Ends w st d.call (Fault d) o mid (ReturnsError Damaged) t
          → (k : Bytes) × (returned : Returned) × (mid : S) × st.got s k returned mid × GivesDamaged (matching w d.call) (Fault d) returned
      go (Some x) given ends = (k, returned, mid, got, given_damaged (matching w d.call) (Fault d) returned (Some x) (ap (λ v. Some v) (sym ends.0)) given)
      go None given ends = absurd (nowhere_damaged (asked opened k is-k control (Ok None) (Some None) refl None (nothing refl) (makes_nowhere mid t ends)))
