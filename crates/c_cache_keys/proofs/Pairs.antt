-- A store in memory that holds one pair.
use Rattle.std.proofs.Common.{◌≡◌, Bool, true, false, cond, List, [], ◌∷◌, Some, refl, sym, ap, ◌∙◌}
use Rattle.std.specs.Cmp.{tied_itself}
use Rattle.std.specs.Cmp.Lexicographic.{nat_list_cmp_total}
use Rattle.std.specs.FinMap.Entries.{find, find-put, put}
use Rattle.std.specs.Ordering.{is_eq}
use Rattle.std.proofs.lemmas.Option.{none-some, same_Some}
use Rattle.cck_path.specs.Bytes.{Bytes}
use Rattle.cck_path.specs.TextOrder.{text_cmp}
use Rattle.cck_util.specs.MapStore.{State, call_begun, empty_state}
use Rattle.c_cache_keys.specs.Snapshot.{one_pair}

-- what is found under a key
pub find_one : (k other bytes x : Bytes) → find text_cmp other ((k, bytes) ∷ []) ≡ Some x → x ≡ bytes
find_one k other bytes x h = by (is_eq (text_cmp other k)) (sym (find-put text_cmp nat_list_cmp_total other k bytes []) ∙ h)
  where
    by : (tied : Bool) → cond tied (Some bytes) (find text_cmp other []) ≡ Some x → x ≡ bytes
    by true e = sym (same_Some bytes x e)
    by false e = absurd (none-some _ e)

pub find_own : (k bytes : Bytes) → find text_cmp k ((k, bytes) ∷ []) ≡ Some bytes
find_own k bytes =
    find-put text_cmp nat_list_cmp_total k k bytes []
    ∙ ap (λ o. cond (is_eq o) (Some bytes) (find text_cmp k [])) (tied_itself nat_list_cmp_total k)

-- a put into a new store leaves the one pair
pub put_one : (s t : State) (k bytes : Bytes) → s ≡ empty_state → t ≡ record (call_begun s) { pairs = put text_cmp k bytes (call_begun s).pairs } → t ≡ one_pair k bytes
put_one s t k bytes is p = p ∙ ap (λ v. record (call_begun v) { pairs = put text_cmp k bytes (call_begun v).pairs }) is

some_pair : (k bytes : Bytes) → ◌≡◌ {A = List (Bytes × Bytes)} ((k, bytes) ∷ []) [] → ⊥
some_pair k bytes e = cc

-- it is no store that holds nothing
pub holds_one : (k bytes : Bytes) (s : State) → s.pairs ≡ [] → one_pair k bytes ≡ s → ⊥
holds_one k bytes s none e = some_pair k bytes (ap (λ (v : State). v.pairs) e ∙ none)

pub not_one_pair : (k bytes : Bytes) → one_pair k bytes ≡ empty_state → ⊥
not_one_pair k bytes e = holds_one k bytes empty_state refl e
