-- A store in memory meets the laws of stores.
use Rattle.std.proofs.Common.{◌≡◌, ◌⊎◌, inl, inr, ◌≤◌, ◌==◌, Bool, true, false, cond, List, [], refl, sym, ap, ◌∙◌, subst, arith, Some, Ok, Err}
use Rattle.std.specs.Cmp.Lexicographic.{nat_list_cmp_total}
use Rattle.std.specs.FinMap.{nat_cmp-IsAntisymmetric, slice_cmp-IsAntisymmetric}
use Rattle.std.specs.FinMap.Entries.{find, find-put, put}
use Rattle.std.specs.Ordering.{eq_by_cmp, is_eq}
use Rattle.std.specs.Cmp.{tied_itself, Equal-is}
use Rattle.std.proofs.lemmas.Option.{none-some, same_Some}
use Rattle.cck_path.specs.Bytes.{Bytes}
use Rattle.cck_files.specs.Calls.{Rose}
use Rattle.cck_files.proofs.CallsLemmas.{rose_earlier}
use Rattle.cck_path.specs.TextOrder.{text_cmp}
use Rattle.cck_util.specs.Counts.{counted_fits, counted_higher, more_higher, more_rises}
use Rattle.cck_util.specs.MapStore.{IsGot, IsMapPut, State, call_begun, map_store, count_failure}
use Rattle.cck_util.specs.Store.{Returned, StoreFailure, StoreLaws, Stored, counted, more}
use Rattle.cck_util.specs.declared.store.StoreError.{StoreError}
use Rattle.cck_util.specs.declared.store.StoreError.TheVariants as store

-- ---- counts

begun_higher : (s : State) → s.failures ≤ (call_begun s).failures
begun_higher s = by (s.forget == 1)
  where
    by : (b : Bool) → s.failures ≤ cond b (more s.failures) s.failures
    by true = more_higher s.failures
    by false = omega arith

count_failure_rises : (s : State) → StoreFailure map_store s (count_failure (call_begun s))
count_failure_rises s =
    rose_earlier (counted s.failures) (counted (call_begun s).failures) (counted (more (call_begun s).failures)) (counted_higher _ _ (begun_higher s)) (more_rises (call_begun s).failures)

count_failure_higher : (s : State) → s.failures ≤ (count_failure (call_begun s)).failures
count_failure_higher s = let up = begun_higher s in let on = more_higher (call_begun s).failures in omega (arith, up, on)

-- ---- what is held

-- what is held when a call has begun was held before
begun_held : (s : State) (k x : Bytes) → find text_cmp k (call_begun s).pairs ≡ Some x → find text_cmp k s.pairs ≡ Some x
begun_held s k x h = by (s.forget == 1) h
  where
    by : (b : Bool) → find text_cmp k (cond b [] s.pairs) ≡ Some x → find text_cmp k s.pairs ≡ Some x
    by true h = absurd cc
    by false h = h

-- without a store failure all of it still is
begun_calm : (s : State) (t : State) → t.failures ≡ (call_begun s).failures → (StoreFailure map_store s t → ⊥) → (call_begun s).pairs ≡ s.pairs
begun_calm s t is calm = by (s.forget == 1) is
  where
    by : (b : Bool) → t.failures ≡ cond b (more s.failures) s.failures → cond b [] s.pairs ≡ s.pairs
    by true is = absurd (calm (subst (λ n. Rose (counted s.failures) (counted n)) (sym is) (more_rises s.failures)))
    by false is = refl

same_text : (k key : Bytes) → eq_by_cmp text_cmp k key ≡ true → k ≡ key
same_text k key e = slice_cmp-IsAntisymmetric nat_cmp-IsAntisymmetric k key ((Equal-is (text_cmp k key)).0 e)

found_own : (key bytes : Bytes) (ps : List (Bytes × Bytes)) → find text_cmp key (put text_cmp key bytes ps) ≡ Some bytes
found_own key bytes ps =
    find-put text_cmp nat_list_cmp_total key key bytes ps
    ∙ ap (λ o. cond (is_eq o) (Some bytes) (find text_cmp key ps)) (tied_itself nat_list_cmp_total key)

found_other : (k x key bytes : Bytes) (ps : List (Bytes × Bytes)) → find text_cmp k (put text_cmp key bytes ps) ≡ Some x → (find text_cmp k ps ≡ Some x) ⊎ ((k ≡ key) × (x ≡ bytes))
found_other k x key bytes ps h = by (eq_by_cmp text_cmp k key) refl (sym (find-put text_cmp nat_list_cmp_total k key bytes ps) ∙ h)
  where
    by : (b : Bool) → eq_by_cmp text_cmp k key ≡ b → cond b (Some bytes) (find text_cmp k ps) ≡ Some x → (find text_cmp k ps ≡ Some x) ⊎ ((k ≡ key) × (x ≡ bytes))
    by true tied is = inr (same_text k key tied, cc)
    by false tied is = inl is

found_apart : (k x key bytes : Bytes) (ps : List (Bytes × Bytes)) → (k ≡ key → ⊥) → find text_cmp k ps ≡ Some x → find text_cmp k (put text_cmp key bytes ps) ≡ Some x
found_apart k x key bytes ps apart h = find-put text_cmp nat_list_cmp_total k key bytes ps ∙ by (eq_by_cmp text_cmp k key) refl
  where
    by : (b : Bool) → eq_by_cmp text_cmp k key ≡ b → cond b (Some bytes) (find text_cmp k ps) ≡ Some x
    by true tied = absurd (apart (same_text k key tied))
    by false tied = h

-- ---- the laws

module _ (s t : State) where
  got_count : (key : Bytes) (a : Returned) → IsGot s key a t → counted s.failures ≤ counted t.failures
  got_count key (Err store.Fault) g = rw (g.1) (counted_higher _ _ (count_failure_higher s))
  got_count key (Err store.Memory) g = rw (g.1) (counted_higher _ _ (count_failure_higher s))
  got_count key (Ok found) g = rw (g.2) (counted_higher _ _ (begun_higher s))

  got_old : (key : Bytes) (a : Returned) → IsGot s key a t → (k x : Bytes) → find text_cmp k t.pairs ≡ Some x → find text_cmp k s.pairs ≡ Some x
  got_old key (Err store.Fault) g k x h = begun_held s k x (ap (λ v. find text_cmp k v.pairs) (sym g.1) ∙ h)
  got_old key (Err store.Memory) g k x h = begun_held s k x (ap (λ v. find text_cmp k v.pairs) (sym g.1) ∙ h)
  got_old key (Ok found) g k x h = begun_held s k x (ap (λ v. find text_cmp k v.pairs) (sym g.2) ∙ h)

  got_calm : (key : Bytes) (a : Returned) → IsGot s key a t → (StoreFailure map_store s t → ⊥) → (k x : Bytes) → find text_cmp k s.pairs ≡ Some x → find text_cmp k t.pairs ≡ Some x
  got_calm key (Err store.Fault) g calm k x h = absurd (calm (subst (StoreFailure map_store s) (sym g.1) (count_failure_rises s)))
  got_calm key (Err store.Memory) g calm k x h = absurd (calm (subst (StoreFailure map_store s) (sym g.1) (count_failure_rises s)))
  got_calm key (Ok found) g calm k x h = ap (λ v. find text_cmp k v.pairs) g.2 ∙ ap (find text_cmp k) (begun_calm s t (ap (λ v. v.failures) g.2) calm) ∙ h

  put_count : (key bytes : Bytes) (a : Stored) → IsMapPut s key bytes a t → counted s.failures ≤ counted t.failures
  put_count key bytes (Err store.Fault) p = rw (p.1) (counted_higher _ _ (count_failure_higher s))
  put_count key bytes (Err store.Memory) p = rw (p.1) (counted_higher _ _ (count_failure_higher s))
  put_count key bytes (Ok done) p = rw (p.1) (counted_higher _ _ (begun_higher s))

  put_old : (key bytes : Bytes) (a : Stored) → IsMapPut s key bytes a t → (k x : Bytes) → find text_cmp k t.pairs ≡ Some x → (find text_cmp k s.pairs ≡ Some x) ⊎ ((k ≡ key) × (x ≡ bytes))
  put_old key bytes (Err store.Fault) p k x h = inl (begun_held s k x (ap (λ v. find text_cmp k v.pairs) (sym p.1) ∙ h))
  put_old key bytes (Err store.Memory) p k x h = inl (begun_held s k x (ap (λ v. find text_cmp k v.pairs) (sym p.1) ∙ h))
  put_old key bytes (Ok done) p k x h =
      elim (found_other k x key bytes (call_begun s).pairs (ap (λ v. find text_cmp k v.pairs) (sym p.1) ∙ h)) [ inl old ↦ inl (begun_held s k x old) | inr own ↦ inr own ]

  put_calm : (key bytes : Bytes) (a : Stored) → IsMapPut s key bytes a t → (StoreFailure map_store s t → ⊥) → (k x : Bytes) → (k ≡ key → ⊥) → find text_cmp k s.pairs ≡ Some x → find text_cmp k t.pairs ≡ Some x
  put_calm key bytes (Err store.Fault) p calm k x apart h = absurd (calm (subst (StoreFailure map_store s) (sym p.1) (count_failure_rises s)))
  put_calm key bytes (Err store.Memory) p calm k x apart h = absurd (calm (subst (StoreFailure map_store s) (sym p.1) (count_failure_rises s)))
  put_calm key bytes (Ok done) p calm k x apart h =
      ap (λ v. find text_cmp k v.pairs) p.1
      ∙ found_apart k x key bytes (call_begun s).pairs apart (ap (find text_cmp k) (begun_calm s t (ap (λ v. v.failures) p.1) calm) ∙ h)

  put_new : (key bytes : Bytes) (a : Stored) → IsMapPut s key bytes a t → (StoreFailure map_store s t → ⊥) → find text_cmp key t.pairs ≡ Some bytes
  put_new key bytes (Err store.Fault) p calm = absurd (calm (subst (StoreFailure map_store s) (sym p.1) (count_failure_rises s)))
  put_new key bytes (Err store.Memory) p calm = absurd (calm (subst (StoreFailure map_store s) (sym p.1) (count_failure_rises s)))
  put_new key bytes (Ok done) p calm = ap (λ v. find text_cmp key v.pairs) p.1 ∙ found_own key bytes (call_begun s).pairs

  got_error : (key : Bytes) (e : StoreError) → IsGot s key (Err e) t → StoreFailure map_store s t
  got_error key store.Fault g = subst (StoreFailure map_store s) (sym g.1) (count_failure_rises s)
  got_error key store.Memory g = subst (StoreFailure map_store s) (sym g.1) (count_failure_rises s)

  put_error : (key bytes : Bytes) (e : StoreError) → IsMapPut s key bytes (Err e) t → StoreFailure map_store s t
  put_error key bytes store.Fault p = subst (StoreFailure map_store s) (sym p.1) (count_failure_rises s)
  put_error key bytes store.Memory p = subst (StoreFailure map_store s) (sym p.1) (count_failure_rises s)

pub map_store_laws : StoreLaws map_store
map_store_laws = record {
  failures_fit = λ s. counted_fits s.failures;
  got_count = got_count;
  got_old = got_old;
  got_some = λ s t key bytes g. begun_held s key bytes (sym g.1);
  got_calm = got_calm;
  got_none = λ s t key g calm b held. (none-some _ (g.1 ∙ ap (find text_cmp key) (begun_calm s t (ap (λ v. v.failures) g.2) calm) ∙ held));
  got_error = got_error;
  put_count = put_count;
  put_old = put_old;
  put_calm = put_calm;
  put_new = λ s t key bytes a p calm.
      let own = put_new s t key bytes a p calm in
      (own, λ x h. same_Some x bytes (sym h ∙ own));
  put_error = put_error;
}
