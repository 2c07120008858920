-- Setting the includes of a key, in a map and in the entry that it holds.
use Rattle.std.proofs.Common.{◌≡◌, ℕ, ◌+◌, ◌≤◌, Bool, true, false, ltb, cond, List, [], ◌∷◌, length, map, Option, Some, None, option_map, unwrap_or, refl, sym, ap, ◌∙◌, arith, zero-add}
use Rattle.std.specs.Prelude.{String}
use Rattle.std.specs.Global.{Vec}
use Rattle.std.specs.declared.alloc.Global.{Global}
use Rattle.std.specs.declared.cmp.Ordering.{Ordering}
use Rattle.std.specs.declared.cmp.Ordering.TheVariants.{Less, Equal, Greater}
use Rattle.std.specs.Ordering.{match_ordering}
use Rattle.std.specs.String.{string_bytes, string_cmp, string_cmp_total}
use Rattle.std.specs.List.{sum_by}
use Rattle.std.specs.List.Sorted.{IsStrictlySortedBy}
use Rattle.std.specs.Cmp.Lexicographic.{nat_list_cmp_total}
use Rattle.std.specs.BTreeMap.{insert_entry, is_at}
use Rattle.std.specs.Map.{keys_of, values_of, lookup}
use Rattle.std.specs.FinMap.{entries, entries-insert, same_entries_map, insert, empty, len}
use Rattle.std.specs.FinMap.Entries.{put, by_order}
use Rattle.std.proofs.lemmas.Map.Entries.{sum_by-insert_entry}
use Rattle.std.proofs.lemmas.List.{length-map}
use Rattle.std.proofs.lemmas.List.Sums.{sum_by-cons}
use Rattle.std.proofs.lemmas.Bool.{ltb-false, or_parts}
use Rattle.cck_include.specs.declared.include.IncludeEntry.{IncludeEntry}
use Rattle.cck_include.specs.Include.{Include, include_in, includes_in}
use Rattle.cck_path.specs.TextOrder.{text_cmp}
use Rattle.cck_entry.specs.Results.{KeyResult, result_in}
use Rattle.cck_entry.specs.Entry.{Entry, entry_in, include_count, added, within_results, within_includes, is_over}
use Rattle.cck_entry.proofs.EntryLemmas.{entries_in, empty_in, entries_of_empty}

by : (r : Ordering) (k : String Global) (v : Vec IncludeEntry) (e : String Global × Vec IncludeEntry) (es : List (String Global × Vec IncludeEntry)) (rest : List KeyResult) → map result_in (insert_entry string_cmp es k v) ≡ rest
    → map result_in (match_ordering r ((k, v) ∷ e ∷ es) ((e.0, v) ∷ es) (e ∷ insert_entry string_cmp es k v)) ≡ by_order r (result_in (k, v) ∷ map result_in (e ∷ es)) ((string_bytes e.0, includes_in v.items) ∷ map result_in es) (result_in e ∷ rest)
by Less k v e es rest h = refl
by Equal k v e es rest h = refl
by Greater k v e es rest h = ap (λ (t : List KeyResult). result_in e ∷ t) h

put_in : (es : List (String Global × Vec IncludeEntry)) (k : String Global) (v : Vec IncludeEntry) → map result_in (insert_entry string_cmp es k v) ≡ put text_cmp (string_bytes k) (includes_in v.items) (map result_in es)
put_in [] k v = refl
put_in (e ∷ es) k v = by (string_cmp k e.0) k v e es (put text_cmp (string_bytes k) (includes_in v.items) (map result_in es)) (put_in es k v)

-- the entry in the map after it
pub insert_in : (es new : List (String Global × Vec IncludeEntry)) (k : String Global) (v : Vec IncludeEntry) → IsStrictlySortedBy string_cmp (keys_of es) → IsStrictlySortedBy string_cmp (keys_of new) → new ≡ insert_entry string_cmp es k v
    → entry_in new ≡ insert (entry_in es) (string_bytes k) (includes_in v.items)
insert_in es new k v old_sorted new_sorted e =
    same_entries_map (entry_in new) (insert (entry_in es) (string_bytes k) (includes_in v.items))
    (entries_in new new_sorted ∙ ap (map result_in) e ∙ put_in es k v ∙ ap (put text_cmp (string_bytes k) (includes_in v.items)) (sym (entries_in es old_sorted)) ∙ sym (entries-insert nat_list_cmp_total (entry_in es) (string_bytes k) (includes_in v.items)))

count_by_sum : (es : List (String Global × Vec IncludeEntry)) → include_count (map result_in es) ≡ sum_by (λ v. length v.items) (values_of es)
count_by_sum [] = refl
count_by_sum (e ∷ es) = omega (arith, count_by_sum es, length-map e.1.items include_in, sum_by-cons (λ (v : Vec IncludeEntry). length v.items) e.1 (values_of es))

-- what a key had before
abbrev pub before_count : Option (Vec IncludeEntry) → ℕ
before_count None = 0
before_count (Some v) = length v.items

as_before : (o : Option (Vec IncludeEntry)) → unwrap_or (option_map (λ v. length v.items) o) 0 ≡ before_count o
as_before None = refl
as_before (Some v) = refl

pub count_after : (es new : List (String Global × Vec IncludeEntry)) (k : String Global) (v : Vec IncludeEntry) (old : Option (Vec IncludeEntry)) → IsStrictlySortedBy string_cmp (keys_of es) → new ≡ insert_entry string_cmp es k v
    → old ≡ lookup (is_at (string_cmp k)) es → include_count (map result_in new) + before_count old ≡ include_count (map result_in es) + length v.items
count_after es new k v old sorted e was =
    let h = sum_by-insert_entry (λ (w : Vec IncludeEntry). length w.items) string_cmp_total es k v sorted in
    rw (e, was, ← as_before (lookup (is_at (string_cmp k)) es)) (omega (arith, h, count_by_sum es, count_by_sum (insert_entry string_cmp es k v)))

before_by : (b : Bool) (e : String Global × Vec IncludeEntry) (o : Option (Vec IncludeEntry)) (rest : ℕ) → before_count o ≤ rest → before_count (cond b (Some e.1) o) ≤ length (includes_in e.1.items) + rest
before_by true e o rest h = omega (arith, length-map e.1.items include_in)
before_by false e o rest h = omega (arith, h)

before_bound : (p : String Global → Bool) (es : List (String Global × Vec IncludeEntry)) → before_count (lookup p es) ≤ include_count (map result_in es)
before_bound p [] = omega arith
before_bound p (e ∷ es) = before_by (p e.0) e (lookup p es) (include_count (map result_in es)) (before_bound p es)

pub before_of : (es : List (String Global × Vec IncludeEntry)) (k : String Global) (old : Option (Vec IncludeEntry)) → old ≡ lookup (is_at (string_cmp k)) es → before_count old ≤ include_count (map result_in es)
before_of es k old was = rw was (before_bound (is_at (string_cmp k)) es)

-- ---- what is cleared before

cond_same : {A : Type 0} (b : Bool) (x : A) → cond b x x ≡ x
cond_same true x = refl
cond_same false x = refl

cleared_by : (a b : Bool) (e : Entry) (n : ℕ) → ltb 100 (len e) ≡ a → ltb 10000 (include_count (entries e) + n) ≡ b → ltb 10000 (include_count (entries (empty {K = List ℕ} {X = List Include} {R = text_cmp})) + n) ≡ ltb 10000 n
    → within_includes (within_results e) n ≡ cond (is_over e n) empty e
cleared_by true b e n p q r = rw (p, r) (cond_same (ltb 10000 n) empty)
cleared_by false true e n p q r = rw (p, q) refl
cleared_by false false e n p q r = rw (p, q) refl

cleared : (e : Entry) (n : ℕ) → within_includes (within_results e) n ≡ cond (is_over e n) empty e
cleared e n = cleared_by (ltb 100 (len e)) (ltb 10000 (include_count (entries e) + n)) e n refl refl (ap (λ (rs : List KeyResult). ltb 10000 (include_count rs + n)) entries_of_empty ∙ ap (ltb 10000) (zero-add n))

-- what a result is added to
pub added_to : (e : Entry) (key : List ℕ) (list : List Include) (b : Bool) → is_over e (length list) ≡ b → added e key list ≡ insert (cond b empty e) key list
added_to e key list b over = ap (λ (m : Entry). insert m key list) (cleared e (length list) ∙ ap (λ b. cond b empty e) over)

pub added_to_none : (es new : List (String Global × Vec IncludeEntry)) (e : Entry) (key : List ℕ) (list : List Include) → es ≡ [] → is_over e (length list) ≡ true → entry_in new ≡ insert (entry_in es) key list → entry_in new ≡ added e key list
added_to_none es new e key list none over h = h ∙ ap (λ (m : Entry). insert m key list) (empty_in es none) ∙ sym (added_to e key list true over)

-- what passes no limit
pub under_limits : (e : Entry) (n : ℕ) → is_over e n ≡ false → (len e ≤ 100) × (include_count (entries e) + n ≤ 10000)
under_limits e n over =
    let under = or_parts (ltb 100 (len e)) (ltb 10000 (include_count (entries e) + n)) over in
    (ltb-false _ _ under.0, ltb-false _ _ under.1)
