-- Each error has its cause.
use Rattle.std.proofs.Common.{◌≡◌, inl, inr, false, sym, ap, subst, Option, None, Some}
use Rattle.cck_path.specs.Bytes.{Bytes}
use Rattle.cck_util.specs.Store.{Returned, Store, StoreLaws}
use Rattle.cck_util.specs.declared.store.StoreError.TheVariants as store
use Rattle.c_cache_keys.proofs.Stored.{not_failed}
use Rattle.cck_hasher.specs.Call.{Call, CallResult, Fault, Keyed, ReturnsError, Why}
use Rattle.c_cache_keys.specs.Hits.{Cause, ErrorsHaveCauses, of_damage, of_extra, of_input, of_marker, of_memory, of_store, of_text}
use Rattle.cck_hasher.specs.Keys.{preprocessor_key_of}
use Rattle.cck_hasher.specs.Step.{Ends, Gives, Makes, Step, StopsMaking, StopsOpening, asked, damaged, extra_fault, gives, input_fault, lacked, made, making_lacks, marker, matched, matching, no_bytes, no_extra, no_input, no_text, no_used_input, nothing, opening_lacks, stopped, stops, store_failed, store_lacked, text_fault, unmatched, used_input_fault}
use Rattle.cck_hasher.specs.World.{World}

same_why : {v w : Why} → ReturnsError v ≡ ReturnsError w → v ≡ w
same_why e = cc

some_why : {v w : Why} → Some (ReturnsError v) ≡ Some (ReturnsError w) → v ≡ w
some_why e = cc

none_why : {v : Why} → None ≡ Some (ReturnsError v) → ⊥
none_why e = cc

keyed_why : {key : Bytes} {v : Why} → Some (Keyed key false) ≡ Some (ReturnsError v) → ⊥
keyed_why e = cc

module _ {V S : Type 0} (w : World V) (st : Store S) (laws : StoreLaws st) where
  opening_cause : (c : Call V) (F : Type 0) (s t : S) (why : Why) → (F → ⊥) → StopsOpening w c F why → Cause w st c s t why
  opening_cause c F s t why no_fault opening_lacks = of_memory
  opening_cause c F s t why no_fault (no_extra none) = of_extra none
  opening_cause c F s t why no_fault (extra_fault fault) = absurd (no_fault fault)
  opening_cause c F s t why no_fault (no_used_input extra used none) = of_input none (inl used)
  opening_cause c F s t why no_fault (used_input_fault used fault) = absurd (no_fault fault)

  making_cause : (c : Call V) (F : Type 0) (s t : S) (why : Why) → (F → ⊥) → StopsMaking w c F why → Cause w st c s t why
  making_cause c F s t why no_fault making_lacks = of_memory
  making_cause c F s t why no_fault (no_text needs none) = of_text needs none
  making_cause c F s t why no_fault (text_fault needs fault) = absurd (no_fault fault)
  making_cause c F s t why no_fault (no_input needs none) = of_input none (inr needs)
  making_cause c F s t why no_fault (input_fault needs fault) = absurd (no_fault fault)
  making_cause c F s t why no_fault (marker key text prints errs) = of_marker key text prints errs

  -- the cause of an error while a key is computed doesn't depend on the state of the store
  makes_cause : (c : Call V) (F : Type 0) (z s t : S) (why : Why) → (F → ⊥) → Makes w st c F s (ReturnsError why) t → Cause w st c z t why
  makes_cause c F z s t why no_fault (stops v cause is same) = subst (Cause w st c z t) (same_why (sym is)) (making_cause c F z t v no_fault cause)
  makes_cause c F z s t why no_fault (gives key is-plain is stores) = absurd (not_failed (sym is))

  given_cause : (c : Call V) (F : Type 0) (s t : S) (k : Bytes) (why : Why) (a : Returned) (o : Option CallResult) → o ≡ Some (ReturnsError why) → preprocessor_key_of w c ≡ Some k → st.got s k a t → Gives (matching w c) F a o
      → Cause w st c s t why
  given_cause c F s t k why a o same is-k got (store_failed is) = subst (Cause w st c s t) (some_why same) (of_store (laws.got_error s t k store.Fault (subst (λ v. st.got s k v t) is got)))
  given_cause c F s t k why a o same is-k got (store_lacked is) = subst (Cause w st c s t) (some_why same) of_memory
  given_cause c F s t k why a o same is-k got (nothing is) = absurd (none_why same)
  given_cause c F s t k why a o same is-k got (no_bytes is) = absurd (none_why same)
  given_cause c F s t k why a o same is-k got (matched bytes key e list is text present all which) = absurd (keyed_why same)
  given_cause c F s t k why a o same is-k got (unmatched bytes e is text which) = absurd (none_why same)
  given_cause c F s t k why a o same is-k got (damaged bytes is some none) =
      subst (Cause w st c s t) (some_why same) (of_damage k bytes is-k (laws.got_some s t k bytes (subst (λ v. st.got s k v t) is got)) some none)
  given_cause c F s t k why a o same is-k got (lacked bytes is) = subst (Cause w st c s t) (some_why same) of_memory

  ends_cause : (c : Call V) (F : Type 0) (s t mid : S) (k : Bytes) (why : Why) (a : Returned) (o : Option CallResult) → (F → ⊥) → preprocessor_key_of w c ≡ Some k → st.got s k a mid → Gives (matching w c) F a o
      → Ends w st c F o mid (ReturnsError why) t → Cause w st c s t why
  ends_cause c F s t mid k why a (Some x) no_fault is-k got given ends =
      subst (λ z. Cause w st c s z why) (sym ends.1) (given_cause c F s mid k why a (Some x) (ap (λ v. Some v) (sym ends.0)) is-k got given)
  ends_cause c F s t mid k why a None no_fault is-k got given ends = makes_cause c F s mid t why no_fault ends

  cause_any : (c : Call V) (F : Type 0) (s t : S) (why : Why) → (F → ⊥) → Step w st c F s (ReturnsError why) t → Cause w st c s t why
  cause_any c F s t why no_fault (stopped v cause is same) = subst (Cause w st c s t) (same_why (sym is)) (opening_cause c F s t v no_fault cause)
  cause_any c F s t why no_fault (made opened not makes) = makes_cause c F s s t why no_fault makes
  cause_any c F s t why no_fault (asked opened k is-k control a mid got o given ends) = ends_cause c F s t mid k why a o no_fault is-k got given ends

  pub errors_have_causes : ErrorsHaveCauses w st
  errors_have_causes d s t why no_fault step = cause_any d.call (Fault d) s t why no_fault step
