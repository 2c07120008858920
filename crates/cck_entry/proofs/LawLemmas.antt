-- The laws about entries: their texts, and the limits that they keep.
use Rattle.std.proofs.Common.{◌≡◌, ◌⊎◌, ℕ, ◌+◌, ◌≤◌, Bool, true, false, cond, List, [], ◌∷◌, length, is_some, Some, refl, sym, ap, subst, ◌++◌, ◌∙◌, arith, inl, inr}
use Rattle.std.specs.Prelude.{MatchBool}
use Rattle.std.specs.List.{flat_map}
use Rattle.std.specs.Int.{to_le_bytes, w64}
use Rattle.std.specs.Cmp.Lexicographic.{nat_list_cmp_total}
use Rattle.std.specs.FinMap.{contains_key, empty, entries, entries-insert, get-empty, insert, len, len-empty, len-insert, same_entries_map}
use Rattle.std.specs.FinMap.Entries.{by_order, put}
use Rattle.std.specs.declared.cmp.Ordering.{Ordering}
use Rattle.std.specs.declared.cmp.Ordering.TheVariants.{Equal, Greater, Less}
use Rattle.std.proofs.lemmas.Option.{same_Some}
use Rattle.cck_include.specs.Include.{Include}
use Rattle.cck_path.specs.TextOrder.{text_cmp}
use Rattle.cck_entry.specs.Entry.{Entry, EntryText, added, include_count, is_over}
use Rattle.cck_entry.specs.Results.{KeyResult}
use Rattle.cck_entry.specs.Laws.{AddedIsLimited, AddedToAllOrNothing, OneTextOneEntry}
use Rattle.cck_entry.specs.Reading.{entry_at}
use Rattle.cck_entry.specs.Writing.{entry_bytes, result_bytes}
use Rattle.cck_entry.proofs.EntryLemmas.{as_entry}
use Rattle.cck_entry.proofs.InsertLemmas.{added_to, under_limits}

-- ---- texts

pub one_text_one_entry : OneTextOneEntry
one_text_one_entry e f a b s t = (one_entry, one_text)
  where
    -- the bytes after the format are read as the results of either
    one_entry : a ≡ b → e ≡ f
    one_entry same =
        let rest = to_le_bytes w64 (length (entries e)) ++ flat_map result_bytes (entries e) in
        let first : entry_at rest ≡ Some (entries e) = as_entry e rest (subst (EntryText e) s.text s) in
        let second : entry_at rest ≡ Some (entries f) = as_entry f rest (subst (EntryText f) (sym same ∙ s.text) t) in
        same_entries_map e f (same_Some (entries e) (entries f) (sym first ∙ second))

    one_text : e ≡ f → a ≡ b
    one_text same = s.text ∙ ap (λ (m : Entry). entry_bytes (entries m)) same ∙ sym t.text

-- ---- limits

pub added_to_all_or_nothing : AddedToAllOrNothing
added_to_all_or_nothing e key list = by (is_over e (length list)) refl
  where
    by : (b : Bool) → is_over e (length list) ≡ b → MatchBool b (added e key list ≡ insert empty key list) (added e key list ≡ insert e key list)
    by true over = added_to e key list true over
    by false over = added_to e key list false over

count_by : (o : Ordering) (key : List ℕ) (list : List Include) (r : KeyResult) (rs : List KeyResult) → include_count (put text_cmp key list rs) ≤ include_count rs + length list
    → include_count (by_order o ((key, list) ∷ r ∷ rs) ((r.0, list) ∷ rs) (r ∷ put text_cmp key list rs)) ≤ length (r.1) + include_count rs + length list
count_by Less key list r rs h = omega arith
count_by Equal key list r rs h = omega arith
count_by Greater key list r rs h = omega (arith, h)

count_put : (key : List ℕ) (list : List Include) (rs : List KeyResult) → include_count (put text_cmp key list rs) ≤ include_count rs + length list
count_put key list [] = omega arith
count_put key list (r ∷ rs) = count_by (text_cmp key (r.0)) key list r rs (count_put key list rs)

-- an entry and one result have at most their includes together
count_insert : (e : Entry) (key : List ℕ) (list : List Include) → include_count (entries (insert e key list)) ≤ include_count (entries e) + length list
count_insert e key list = rw (entries-insert nat_list_cmp_total e key list) (count_put key list (entries e))

one_more : (b : Bool) (n : ℕ) → cond b n (n + 1) ≤ n + 1
one_more true n = omega arith
one_more false n = omega arith

-- one result more at most, and one result where there was none
len_insert : (e : Entry) (key : List ℕ) (list : List Include) → len (insert e key list) ≤ len e + 1
len_insert e key list = rw (len-insert nat_list_cmp_total e key list) (one_more (contains_key e key) (len e))

abbrev no_results : Entry
no_results = empty

len_first : (key : List ℕ) (list : List Include) → len (insert no_results key list) ≡ 1
len_first key list =
    len-insert nat_list_cmp_total no_results key list ∙ ap (λ b. cond b (len no_results) (len no_results + 1)) (ap is_some (get-empty {X = List Include} text_cmp key)) ∙ ap (λ n. n + 1) (len-empty text_cmp (List Include))

pub added_is_limited : AddedIsLimited
added_is_limited e key list = by (is_over e (length list)) refl
  where
    by : (b : Bool) → is_over e (length list) ≡ b → (len (added e key list) ≤ 101) × ((len (added e key list) ≡ 1) ⊎ (include_count (entries (added e key list)) ≤ 10000))
    by true over =
        let alone : len (added e key list) ≡ 1 = ap len (added_to e key list true over) ∙ len_first key list in
        (omega (arith, alone), inl alone)
    by false over =
        let is : added e key list ≡ insert e key list = added_to e key list false over in
        let under = under_limits e (length list) over in
        (omega (arith, ap len is, len_insert e key list, under.0), inr (rw is (omega (arith, count_insert e key list, under.1))))
