-- A step on one pair is a step on each store.
use Rattle.std.proofs.Common.{◌≡◌, ℕ, ◌∷◌, [], List, Bool, false, true, cond, Option, None, Some, Ok, Err, refl, sym, ap, ◌∙◌, subst, arith}
use Rattle.std.specs.Cmp.{Equal-is}
use Rattle.std.specs.Cmp.Lexicographic.{nat_list_cmp_total}
use Rattle.std.specs.FinMap.{nat_cmp-IsAntisymmetric, slice_cmp-IsAntisymmetric}
use Rattle.std.specs.FinMap.Entries.{find, find-put}
use Rattle.std.specs.Ordering.{is_eq}
use Rattle.std.proofs.lemmas.Bool.{false≢true}
use Rattle.std.proofs.lemmas.Option.{none-some}
use Rattle.cck_entry.specs.Entry.{EntryText}
use Rattle.cck_entry.specs.Statuses.{Statuses}
use Rattle.cck_include.specs.Include.{Include}
use Rattle.cck_path.specs.Bytes.{Bytes}
use Rattle.cck_path.specs.TextOrder.{text_cmp}
use Rattle.cck_util.specs.MapStore.{IsGot, IsMapPut, State, call_begun, map_store, empty_state, count_failure}
use Rattle.cck_util.specs.Store.{Returned, Store, Stored}
use Rattle.cck_util.specs.declared.store.StoreError.TheVariants as store
use Rattle.c_cache_keys.proofs.Stored.{not_both, not_failed, same_key}
use Rattle.cck_hasher.specs.Call.{Call, CallResult, Fault, Keyed}
use Rattle.cck_hasher.specs.Keys.{preprocessor_key_of}
use Rattle.cck_hasher.specs.Step.{Ends, Gives, OwnPair, Step, Stores, asked, faulted, gives, made, matched, no_key, none_recorded, puts, refused, stopped, stops}
use Rattle.cck_hasher.specs.World.{World}
use Rattle.cck_hasher.specs.declared.call.CacheControl.TheVariants.{ForceRecache}
use Rattle.c_cache_keys.proofs.SnapshotHits.{made_fresh}
use Rattle.c_cache_keys.proofs.Outcomes.{given_hit}
use Rattle.c_cache_keys.proofs.Pairs.{find_one, holds_one, not_one_pair, put_one}
use Rattle.c_cache_keys.specs.SnapshotLaws.{HitOnAnyStore, NothingOnAnyStore, RecordingOnAnyStore}
use Rattle.c_cache_keys.specs.Snapshot.{one_pair}
use Rattle.c_cache_keys.specs.Statuses.{AsksWith, matching_with}

-- a key that something is found under is that of the pair
pub find_key : (k other bytes x : Bytes) → find text_cmp other ((k, bytes) ∷ []) ≡ Some x → other ≡ k
find_key k other bytes x h = by (is_eq (text_cmp other k)) refl (sym (find-put text_cmp nat_list_cmp_total other k bytes []) ∙ h)
  where
    by : (tied : Bool) → is_eq (text_cmp other k) ≡ tied → cond tied (Some bytes) (find text_cmp other []) ≡ Some x → other ≡ k
    by true tied e = slice_cmp-IsAntisymmetric nat_cmp-IsAntisymmetric other k ((Equal-is (text_cmp other k)).0 tied)
    by false tied e = absurd (none-some _ e)

same_head : (x y : Bytes × Bytes) (xs ys : List (Bytes × Bytes)) → x ∷ xs ≡ y ∷ ys → x ≡ y
same_head x y xs ys e = cc

-- two stores of one pair
same_pairs : (k l a b : Bytes) → one_pair k a ≡ one_pair l b → (k ≡ l) × (a ≡ b)
same_pairs k l a b e = let pair = same_head (k, a) (l, b) [] [] (ap (λ (v : State). v.pairs) e) in (ap (λ p. p.0) pair, ap (λ p. p.1) pair)

module _ {V S : Type 0} (w : World V) (st : Store S) (c : Call V) (F : Type 0) where
  -- what a get of one pair returned for a hit is the pair's bytes, under its key
  got_hit : (test : Include → Bool) (k other bytes key : Bytes) (from_store : Returned) (mid : State) (o : Option CallResult) → o ≡ Some (Keyed key false) → IsGot (one_pair k bytes) other from_store mid → Gives test F from_store o
      → (other ≡ k) × Gives test F (Ok (Some bytes)) (Some (Keyed key false))
  got_hit test k other bytes key from_store mid o same got given =
      let hit = given_hit test F from_store key o same given in
      let held = sym (subst (λ v. IsGot (one_pair k bytes) other v mid) hit.is got).1 in (
        find_key k other bytes hit.bytes held,
        matched bytes key hit.e hit.list refl (subst (EntryText hit.e) (find_one k other bytes hit.bytes held) hit.text) hit.has hit.all hit.which,
      )

  hit_there : (statuses : Statuses) (k bytes key : Bytes) (t : State) (s u : S) → AsksWith w map_store statuses c F (one_pair k bytes) (Keyed key false) t → st.got s k (Ok (Some bytes)) u
      → AsksWith w st statuses c F s (Keyed key false) u
  hit_there statuses k bytes key t s u asks got = go asks.outcome asks.gives asks.ends
    where
      go : (a : Option CallResult) → Gives (matching_with w statuses c) F asks.returned a → Ends w map_store c F a asks.mid (Keyed key false) t → AsksWith w st statuses c F s (Keyed key false) u
      go (Some x) given ends =
          let parts = got_hit (matching_with w statuses c) k asks.key bytes key asks.returned asks.mid (Some x) (ap (λ v. Some v) (sym ends.0)) asks.got given in
          record {
            opened = asks.opened;
            key = k;
            is_key = subst (λ v. preprocessor_key_of w c ≡ Some v) parts.0 asks.is_key;
            control = asks.control;
            returned = Ok (Some bytes);
            mid = u;
            got = got;
            outcome = Some (Keyed key false);
            gives = parts.1;
            ends = (refl, refl);
          }
      go None given ends = absurd (made_fresh w map_store c F asks.mid t key ends)

  -- a put that left one pair is the put of this pair
  put_was : (key k bytes : Bytes) (p q : Bytes) (from_store : Stored) → IsMapPut empty_state p q from_store (one_pair k bytes) → (p ≡ k) × (q ≡ bytes)
  put_was key k bytes p q (Ok done) put = let same = same_pairs k p bytes q (put_one empty_state (one_pair k bytes) p q refl put.1) in (sym same.0, sym same.1)
  put_was key k bytes p q (Err store.Fault) put = absurd (false≢true put.0)
  put_was key k bytes p q (Err store.Memory) put = absurd (holds_one k bytes (count_failure (call_begun empty_state)) refl put.1)

  own_of : (key k bytes : Bytes) → Stores w map_store c F key empty_state (one_pair k bytes) → OwnPair w c key k bytes
  own_of key k bytes (puts p q own stored put) =
      let same = put_was key k bytes p q stored put in
      subst (λ v. OwnPair w c key v bytes) same.0 (subst (λ v. OwnPair w c key p v) same.1 own)
  own_of key k bytes (no_key none same) = absurd (not_one_pair k bytes same)
  own_of key k bytes (refused text prints walk same) = absurd (not_one_pair k bytes same)
  own_of key k bytes (none_recorded text prints walk none same) = absurd (not_one_pair k bytes same)
  own_of key k bytes (faulted fault same) = absurd (not_one_pair k bytes same)

  -- the pair of a recording is the call's own
  pub recorded_own : (k bytes key : Bytes) → c.control ≡ ForceRecache → Step w map_store c F empty_state (Keyed key true) (one_pair k bytes) → OwnPair w c key k bytes
  recorded_own k bytes key control (stopped why cause is same) = absurd (not_failed is)
  recorded_own k bytes key control (made o not (stops why cause is same)) = absurd (not_failed is)
  recorded_own k bytes key control (made o not (gives other plain is stores)) = subst (λ v. OwnPair w c v k bytes) (sym (same_key is)) (own_of other k bytes stores)
  recorded_own k bytes key control (asked o other is default a mid got b given ends) = absurd (not_both (sym default ∙ control))

  nothing_of : (key : Bytes) (s : S) → Stores w map_store c F key empty_state empty_state → Stores w st c F key s s
  nothing_of key s (puts p q own stored put) = absurd (nothing_put p q stored put)
    where
      nothing_put : (k bytes : Bytes) (from_store : Stored) → IsMapPut empty_state k bytes from_store empty_state → ⊥
      nothing_put k bytes (Ok done) put = let ps : ◌≡◌ {A = List (Bytes × Bytes)} [] ((k, bytes) ∷ []) = ap (λ (v : State). v.pairs) (put_one empty_state empty_state k bytes refl put.1) in cc
      nothing_put k bytes (Err store.Fault) put = false≢true put.0
      nothing_put k bytes (Err store.Memory) put = let no : ◌≡◌ {A = ℕ} 0 1 = ap (λ (v : State). v.armed.calls) put.1 in omega arith
  nothing_of key s (no_key none same) = no_key none refl
  nothing_of key s (refused text prints walk same) = refused text prints walk refl
  nothing_of key s (none_recorded text prints walk none same) = none_recorded text prints walk none refl
  nothing_of key s (faulted fault same) = faulted fault refl

  recording_there : (k bytes key : Bytes) (from_store : Stored) (s u : S) → c.control ≡ ForceRecache → Step w map_store c F empty_state (Keyed key true) (one_pair k bytes) → st.put s k bytes from_store u → Step w st c F s (Keyed key true) u
  recording_there k bytes key from_store s u control (stopped why cause is same) put = absurd (not_failed is)
  recording_there k bytes key from_store s u control (made o not (stops why cause is same)) put = absurd (not_failed is)
  recording_there k bytes key from_store s u control (made o not (gives other plain is stores)) put = made o not (gives other plain is (puts k bytes (own_of other k bytes stores) from_store put))
  recording_there k bytes key from_store s u control (asked o other is default a mid got b given ends) put = absurd (not_both (sym default ∙ control))

  nothing_there : (key : Bytes) (s : S) → c.control ≡ ForceRecache → Step w map_store c F empty_state (Keyed key true) empty_state → Step w st c F s (Keyed key true) s
  nothing_there key s control (stopped why cause is same) = absurd (not_failed is)
  nothing_there key s control (made o not (stops why cause is same)) = absurd (not_failed is)
  nothing_there key s control (made o not (gives other plain is stores)) = made o not (gives other plain is (nothing_of other s stores))
  nothing_there key s control (asked o other is default a mid got b given ends) = absurd (not_both (sym default ∙ control))

module _ {V S : Type 0} (w : World V) (st : Store S) where
  pub hit_on_any_store : HitOnAnyStore w st
  hit_on_any_store d statuses k bytes key t s u asks got = hit_there w st d.call (Fault d) statuses k bytes key t s u asks got

  pub recording_on_any_store : RecordingOnAnyStore w st
  recording_on_any_store d k bytes key from_store s u control step put = recording_there w st d.call (Fault d) k bytes key from_store s u control step put

  pub nothing_on_any_store : NothingOnAnyStore w st
  nothing_on_any_store d key s control step = nothing_there w st d.call (Fault d) key s control step
