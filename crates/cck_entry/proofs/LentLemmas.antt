-- Results as borrowed from bytes, and the entry that has them.
use Rattle.std.proofs.Common.{◌≡◌, ℕ, zero, suc, ◌+◌, ◌<◌, true, false, List, [], ◌∷◌, ◌++◌, append_assoc, drop, drop-cons, get_or, length, map, Some, refl, sym, ap, ◌∙◌, arith}
use Rattle.std.specs.Prelude.{slice_get}
use Rattle.std.specs.Cmp.{tied_itself}
use Rattle.std.specs.Cmp.Lexicographic.{nat_list_cmp_total}
use Rattle.std.specs.List.{AllByRecursion}
use Rattle.std.specs.Map.{keys_of}
use Rattle.std.specs.Option.{option_map}
use Rattle.std.specs.Ordering.{is_lt, ordering_reverse}
use Rattle.std.specs.declared.cmp.Ordering.TheVariants.{Less}
use Rattle.std.specs.FinMap.{empty, entries, entries-from_sorted, is_sorted, same_entries_map}
use Rattle.std.specs.FinMap.Entries.{below_all}
use Rattle.std.proofs.lemmas.Bool.{and_parts, and_from}
use Rattle.std.proofs.lemmas.Float.{T_from_true}
use Rattle.std.proofs.lemmas.List.{length-map}
use Rattle.std.proofs.lemmas.List.Elements.{All-from_recursion}
use Rattle.std.proofs.lemmas.Option.{same_Some, slice_get-map}
use Rattle.cck_include.specs.Include.{Include}
use Rattle.cck_path.proofs.LastLemmas.{decided_by_last}
use Rattle.cck_path.proofs.TestLemmas.{less_is}
use Rattle.cck_path.specs.TextOrder.{text_cmp}
use Rattle.cck_entry.specs.Entry.{include_count}
use Rattle.cck_entry.specs.Lent.{IsWhole, counts, entry_lent, includes_begun, result_lent}
use Rattle.cck_entry.specs.Reading.{comes_after}
use Rattle.cck_entry.specs.Results.{KeyResult}
use Rattle.cck_entry.specs.declared.result_ref.ResultRef.{ResultRef}
use Rattle.cck_entry.proofs.EntryLemmas.{after_front, entries_of_empty}
use Rattle.cck_entry.proofs.IncludeLoop.{begun_length}

-- ---- keys that ascend

below_push : (k : List ℕ) (rs : List KeyResult) (r : KeyResult) → below_all text_cmp k rs ≡ true → is_lt (text_cmp k r.0) ≡ true → below_all text_cmp k (rs ++ r ∷ []) ≡ true
below_push k [] r h lt = and_from _ _ lt refl
below_push k (x ∷ rs) r h lt = and_from _ _ (and_parts _ _ h).0 (below_push k rs r (and_parts _ _ h).1 lt)

-- one more key, after all others
pub sorted_push : (rs : List KeyResult) (r : KeyResult) → is_sorted text_cmp rs ≡ true → comes_after rs r.0 ≡ true → is_sorted text_cmp (rs ++ r ∷ []) ≡ true
sorted_push [] r s h = refl
sorted_push (x ∷ rs) r s h = and_from _ _ (below_push x.0 rs r (and_parts _ _ s).0 (and_parts _ _ h).0) (sorted_push rs r (and_parts _ _ s).1 (and_parts _ _ h).1)

below_one : (k : List ℕ) (rs : List KeyResult) (i : ℕ) (r : KeyResult) → below_all text_cmp k rs ≡ true → slice_get rs i ≡ Some r → text_cmp k r.0 ≡ Less
below_one k [] i r h at = absurd cc
below_one k (x ∷ rs) zero r h at = ap (λ (y : KeyResult). text_cmp k y.0) (sym (same_Some x r at)) ∙ less_is _ (and_parts _ _ h).0
below_one k (x ∷ rs) (suc i) r h at = below_one k rs i r (and_parts _ _ h).1 at

-- none is above the last
none_above : (rs : List KeyResult) (i : ℕ) (last : KeyResult) → i + 1 ≡ length rs → slice_get rs i ≡ Some last → is_sorted text_cmp rs ≡ true → AllByRecursion (λ q. is_lt (text_cmp last.0 q) ≡ false) (keys_of rs)
none_above [] i last e at s = tt
none_above (r ∷ []) zero last e at s = (ap (λ (y : KeyResult). is_lt (text_cmp y.0 r.0)) (sym (same_Some r last at)) ∙ ap is_lt (tied_itself nat_list_cmp_total r.0), tt)
none_above (r ∷ []) (suc i) last e at s = absurd (omega arith)
none_above (r ∷ x ∷ rs) zero last e at s = absurd (omega arith)
none_above (r ∷ x ∷ rs) (suc i) last e at s =
    let above = nat_list_cmp_total.antisymm last.0 r.0 ∙ ap ordering_reverse (below_one r.0 (x ∷ rs) i last (and_parts _ _ s).0 at) in
    (ap is_lt above, none_above (x ∷ rs) i last (omega arith) at (and_parts _ _ s).1)

-- so the last decides
pub after_last : (rs : List ResultRef) (i : ℕ) (k : List ℕ) (last : ResultRef) → i + 1 ≡ length rs → slice_get rs i ≡ Some last → is_sorted text_cmp (map result_lent rs) ≡ true
    → is_lt (text_cmp last.key.now k) ≡ comes_after (map result_lent rs) k
after_last rs i k last e at s =
    let place : slice_get (map result_lent rs) i ≡ Some (result_lent last) = slice_get-map result_lent rs i ∙ ap (option_map result_lent) at in
    decided_by_last nat_list_cmp_total (map result_lent rs) last.key.now k (result_lent last).1 i
    (All-from_recursion _ _ (none_above (map result_lent rs) i (result_lent last) (e ∙ sym (length-map rs result_lent)) place s)) place

-- ---- the entry

pub lent_entries : (rs : List ResultRef) → is_sorted text_cmp (map result_lent rs) ≡ true → entries (entry_lent rs) ≡ map result_lent rs
lent_entries rs s = entries-from_sorted text_cmp (map result_lent rs) (T_from_true _ s)

pub lent_empty : (rs : List ResultRef) → rs ≡ [] → entry_lent rs ≡ empty
lent_empty rs e = ap entry_lent e ∙ same_entries_map (entry_lent []) empty (entries-from_sorted text_cmp [] tt ∙ sym entries_of_empty)

-- how many includes there are
pub lent_count : (rs : List ResultRef) → AllByRecursion IsWhole rs → include_count (map result_lent rs) ≡ counts rs
lent_count [] h = refl
lent_count (r ∷ rs) h = omega (arith, begun_length r.count r.includes.now h.0, lent_count rs h.1)

pub whole_push : (rs : List ResultRef) (r : ResultRef) → AllByRecursion IsWhole rs → IsWhole r → AllByRecursion IsWhole (rs ++ r ∷ [])
whole_push [] r h k = (k, tt)
whole_push (x ∷ rs) r h k = (h.0, whole_push rs r h.1 k)

-- ---- results of their own

-- the result at this place is the first of those that are left
pub lent_here : (rs : List ResultRef) (i : ℕ) (d : ResultRef) (own : List KeyResult) → i < length rs → own ++ map result_lent (drop i rs) ≡ map result_lent rs
    → own ++ result_lent (get_or rs i d) ∷ map result_lent (drop (i + 1) rs) ≡ map result_lent rs
lent_here rs i d own within so_far =
    let next : suc i ≡ i + 1 = omega arith in
    ap (λ (k : ℕ). own ++ result_lent (get_or rs i d) ∷ map result_lent (drop k rs)) (sym next) ∙ (ap (λ (l : List ResultRef). own ++ map result_lent l) (sym (drop-cons rs i d within)) ∙ so_far)

-- it comes after those before it,
pub after_own : (rs : List ResultRef) (i : ℕ) (d : ResultRef) (own : List KeyResult) (key : List ℕ) → i < length rs → is_sorted text_cmp (map result_lent rs) ≡ true
    → own ++ map result_lent (drop i rs) ≡ map result_lent rs → key ≡ (get_or rs i d).key.now → comes_after own key ≡ true
after_own rs i d own key within s so_far is =
    ap (comes_after own) is ∙ after_front own (result_lent (get_or rs i d)) (map result_lent (drop (i + 1) rs)) (ap (is_sorted text_cmp) (lent_here rs i d own within so_far) ∙ s)

-- and after it are the others
pub own_push : (rs : List ResultRef) (i : ℕ) (d : ResultRef) (own new : List KeyResult) (key : List ℕ) (list : List Include) → i < length rs → own ++ map result_lent (drop i rs) ≡ map result_lent rs
    → new ≡ own ++ (key, list) ∷ [] → key ≡ (get_or rs i d).key.now → list ≡ includes_begun (get_or rs i d).count (get_or rs i d).includes.now → new ++ map result_lent (drop (i + 1) rs) ≡ map result_lent rs
own_push rs i d own new key list within so_far all is has =
    let left = map result_lent (drop (i + 1) rs) in
    ap (λ (l : List KeyResult). l ++ left) all ∙ (append_assoc own ((key, list) ∷ []) left
    ∙ (ap (λ (k : List ℕ). own ++ (k, list) ∷ left) is ∙ (ap (λ (l : List Include). own ++ ((get_or rs i d).key.now, l) ∷ left) has ∙ lent_here rs i d own within so_far)))
