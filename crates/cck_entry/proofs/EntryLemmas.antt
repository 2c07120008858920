-- The entry that lies in a map, and the entry that bytes spell.
use Rattle.std.proofs.Common.{◌≡◌, ℕ, ◌*◌, ◌^◌, ◌<◌, ◌≤◌, true, List, [], ◌∷◌, ◌++◌, length, map, Some, None, Result, Ok, Err, refl, sym, ap, subst, ◌∙◌, append_assoc, arith}
use Rattle.std.specs.Prelude.{String, OnOk}
use Rattle.std.specs.Global.{Vec}
use Rattle.std.specs.declared.alloc.Global.{Global}
use Rattle.std.specs.Ordering.{is_lt}
use Rattle.std.specs.declared.cmp.Ordering.{Ordering}
use Rattle.std.specs.declared.cmp.Ordering.TheVariants.{Less}
use Rattle.std.specs.String.{string_cmp, string_bytes}
use Rattle.std.specs.List.{flat_map, AllByRecursion}
use Rattle.std.specs.List.Sorted.{IsStrictlySortedBy}
use Rattle.std.specs.Map.{keys_of}
use Rattle.std.specs.FinMap.{entries, entries_sorted, entries-from_sorted, from_sorted, same_entries_map, is_sorted, empty, len-entries, len-empty}
use Rattle.std.specs.FinMap.Entries.{below_all}
use Rattle.std.proofs.lemmas.List.{length-append, nil_from_length}
use Rattle.std.proofs.lemmas.List.Concat.{flat_map-cons}
use Rattle.std.specs.Int.{w64, to_le_bytes}
use Rattle.std.proofs.lemmas.Option.{same_Some}
use Rattle.std.proofs.lemmas.Bool.{and_parts, and_from}
use Rattle.std.proofs.lemmas.Float.{T_from_true}
use Rattle.cck_include.specs.declared.include.IncludeEntry.{IncludeEntry}
use Rattle.cck_include.specs.Include.{Include, format_version}
use Rattle.cck_path.specs.TextOrder.{text_cmp}
use Rattle.cck_digest.specs.declared.entry_error.Error.{Error}
use Rattle.cck_digest.specs.declared.entry_error.Error.TheVariants.{Io, Deserialization, UnknownFormat, Memory}
use Rattle.cck_path.proofs.TestLemmas.{true_from_T}
use Rattle.cck_entry.specs.Results.{KeyResult, result_in, FitsResult}
use Rattle.cck_entry.specs.Writing.{entry_bytes, include_bytes, length_prefixed, result_bytes}
use Rattle.cck_entry.specs.Reading.{entry_at, comes_after, Fails}
use Rattle.cck_entry.specs.Entry.{Entry, EntryText, entry_in, include_count, IsReadFrom}
use Rattle.cck_entry.proofs.FieldLemmas.{IsBytes}
use Rattle.cck_entry.proofs.TextLemmas.{Ascends, IsEntry, entry_takes, entry_again, includes_long}

is_less : (r : Ordering) → r ≡ Less → is_lt r ≡ true
is_less r e = ap is_lt e

-- ---- a map's entries are in order

below_in : (k : String Global) (es : List (String Global × Vec IncludeEntry)) → AllByRecursion (λ y. string_cmp k y ≡ Less) (keys_of es) → below_all text_cmp (string_bytes k) (map result_in es) ≡ true
below_in k [] h = refl
below_in k (e ∷ es) h = and_from _ _ (is_less _ h.0) (below_in k es h.1)

sorted_in : (es : List (String Global × Vec IncludeEntry)) → IsStrictlySortedBy string_cmp (keys_of es) → is_sorted text_cmp (map result_in es) ≡ true
unfolding IsStrictlySortedBy
sorted_in [] h = refl
sorted_in (e ∷ es) h = and_from _ _ (below_in e.0 es h.0) (sorted_in es h.1)

pub entries_in : (es : List (String Global × Vec IncludeEntry)) → IsStrictlySortedBy string_cmp (keys_of es) → entries (entry_in es) ≡ map result_in es
entries_in es h = entries-from_sorted text_cmp (map result_in es) (T_from_true _ (sorted_in es h))

-- ---- the keys of an entry ascend, as its text is read

comes_after-append : (front : List KeyResult) (r : KeyResult) (k : List ℕ) → comes_after front k ≡ true → is_lt (text_cmp r.0 k) ≡ true → comes_after (front ++ r ∷ []) k ≡ true
comes_after-append [] r k h lt = and_from _ _ lt refl
comes_after-append (f ∷ front) r k h lt = and_from _ _ (and_parts _ _ h).0 (comes_after-append front r k (and_parts _ _ h).1 lt)

abbrev AllAfter : List KeyResult → List KeyResult → Type 0
AllAfter front rs = AllByRecursion (λ r. comes_after front r.0 ≡ true) rs

all_after_more : (front : List KeyResult) (r : KeyResult) (rs : List KeyResult) → AllAfter front rs → below_all text_cmp r.0 rs ≡ true → AllAfter (front ++ r ∷ []) rs
all_after_more front r [] h b = tt
all_after_more front r (x ∷ rs) h b = (comes_after-append front r x.0 h.0 (and_parts _ _ b).0, all_after_more front r rs h.1 (and_parts _ _ b).1)

ascends_from : (rs front : List KeyResult) → AllAfter front rs → is_sorted text_cmp rs ≡ true → Ascends front rs
ascends_from [] front h s = tt
ascends_from (r ∷ rs) front h s = (h.0, ascends_from rs (front ++ r ∷ []) (all_after_more front r rs h.1 (and_parts _ _ s).0) (and_parts _ _ s).1)

none_in_front : (rs : List KeyResult) → AllAfter [] rs
none_in_front [] = tt
none_in_front (r ∷ rs) = (refl, none_in_front rs)

after_one : (a b : List KeyResult) (r : KeyResult) (k : List ℕ) → comes_after (a ++ r ∷ b) k ≡ true → is_lt (text_cmp r.0 k) ≡ true
after_one [] b r k h = (and_parts _ _ h).0
after_one (x ∷ a) b r k h = after_one a b r k (and_parts _ _ h).1

below_from : (rs a b : List KeyResult) (r : KeyResult) → Ascends (a ++ r ∷ b) rs → below_all text_cmp r.0 rs ≡ true
below_from [] a b r h = refl
below_from (x ∷ rs) a b r h =
    and_from _ _ (after_one a b r x.0 h.0) (below_from rs a (b ++ x ∷ []) r (subst (λ (f : List KeyResult). Ascends f rs) (append_assoc a (r ∷ b) (x ∷ [])) h.1))

pub sorted_from : (rs front : List KeyResult) → Ascends front rs → is_sorted text_cmp rs ≡ true
sorted_from [] front h = refl
sorted_from (r ∷ rs) front h = and_from _ _ (below_from rs front [] r h.1) (sorted_from rs (front ++ r ∷ []) h.1)

-- in a list in order a key comes after those in front of it
below_at : (key : List ℕ) (front : List KeyResult) (r : KeyResult) (following : List KeyResult) → below_all text_cmp key (front ++ r ∷ following) ≡ true → is_lt (text_cmp key (r.0)) ≡ true
below_at key [] r following h = (and_parts _ _ h).0
below_at key (x ∷ front) r following h = below_at key front r following (and_parts _ _ h).1

pub after_front : (front : List KeyResult) (r : KeyResult) (following : List KeyResult) → is_sorted text_cmp (front ++ r ∷ following) ≡ true → comes_after front (r.0) ≡ true
after_front [] r following h = refl
after_front (x ∷ front) r following h = and_from _ _ (below_at x.0 front r following (and_parts _ _ h).0) (after_front front r following (and_parts _ _ h).1)

pub after_copied : (es : List (String Global × Vec IncludeEntry)) (front : List KeyResult) (r : KeyResult) (following : List KeyResult) → IsStrictlySortedBy string_cmp (keys_of es) → front ++ r ∷ following ≡ map result_in es → comes_after front (r.0) ≡ true
after_copied es front r following h e = after_front front r following (ap (is_sorted text_cmp) e ∙ sorted_in es h)

-- ---- what bytes spell

abbrev one_more : List ℕ → List ℕ
one_more b = format_version ∷ b

tail_is : (a b : List ℕ) → one_more a ≡ one_more b → a ≡ b
tail_is a b e = cc

pub as_entry : (e : Entry) (rest : List ℕ) → EntryText e (format_version ∷ rest) → entry_at rest ≡ Some (entries e)
as_entry e rest h =
    let fits : IsEntry (entries e) = record { count = h.count; each = h.each; ascends = ascends_from (entries e) [] (none_in_front (entries e)) (true_from_T _ (entries_sorted e)) } in
    let text = tail_is rest _ h.text in
    ap entry_at text ∙ entry_again (entries e) fits

-- it is the text of what is read
pub read_text : (rest : List ℕ) (rs : List KeyResult) → IsBytes rest → entry_at rest ≡ Some rs → EntryText (from_sorted rs) (format_version ∷ rest)
read_text rest rs fits e =
    let t = entry_takes rest rs fits e in
    let same : entries (from_sorted {R = text_cmp} rs) ≡ rs = entries-from_sorted text_cmp rs (T_from_true _ (sorted_from rs [] t.0.ascends)) in
    record {
      count = rw same t.0.count;
      each = rw same t.0.each;
      text = rw same (ap (λ (b : List ℕ). format_version ∷ b) t.1);
    }

-- and of nothing where nothing is read
pub no_text : (rest : List ℕ) → entry_at rest ≡ None → (e : Entry) → EntryText e (format_version ∷ rest) → ⊥
no_text rest none e h = let s = as_entry e rest h in absurd cc

-- a text is of one entry
pub one_entry : (rest : List ℕ) (rs : List KeyResult) (e : Entry) → IsBytes rest → entry_at rest ≡ Some rs → EntryText e (format_version ∷ rest) → from_sorted rs ≡ e
one_entry rest rs e fits is h =
    let t = entry_takes rest rs fits is in
    let found : rs ≡ entries e = same_Some rs (entries e) (sym is ∙ as_entry e rest h) in
    same_entries_map (from_sorted rs) e (entries-from_sorted text_cmp rs (T_from_true _ (sorted_from rs [] t.0.ascends)) ∙ found)

-- ---- how many includes there are

counts_long : (rs : List KeyResult) → 26 * include_count rs ≤ length (flat_map result_bytes rs)
counts_long [] = omega arith
counts_long (r ∷ rs) =
    omega (
      arith,
      counts_long rs,
      includes_long r.1,
      ap length (flat_map-cons result_bytes r rs),
      length-append (result_bytes r) (flat_map result_bytes rs),
      length-append (length_prefixed r.0) (to_le_bytes w64 (length r.1) ++ flat_map include_bytes r.1),
      length-append (to_le_bytes w64 (length r.1)) (flat_map include_bytes r.1),
    )

-- the number of includes that the bytes can hold
pub count_bound : (rest : List ℕ) (rs : List KeyResult) → IsBytes rest → entry_at rest ≡ Some rs → 26 * include_count rs ≤ length rest
count_bound rest rs fits e =
    let t = entry_takes rest rs fits e in
    omega (arith, counts_long rs, ap length t.1, length-append (to_le_bytes w64 (length rs)) (flat_map result_bytes rs))

-- the error of one reading is that of the other
pub read_error : (e : Error) (rest : List ℕ) → Fails e (entry_at rest) → IsReadFrom rest (Err e)
read_error Memory rest h = tt
read_error Deserialization rest h = no_text rest h
read_error (Io u) rest h = h
read_error (UnknownFormat x) rest h = h

pub entries_of_empty : entries (empty {K = List ℕ} {X = List Include} {R = text_cmp}) ≡ []
entries_of_empty = nil_from_length _ (sym (len-entries empty) ∙ len-empty text_cmp (List Include))

pub empty_in : (es : List (String Global × Vec IncludeEntry)) → es ≡ [] → entry_in es ≡ empty
empty_in es e = ap entry_in e ∙ same_entries_map (entry_in []) empty (entries-from_sorted text_cmp [] tt ∙ sym entries_of_empty)

-- what was written is the entry's text
pub is_written : (es : List (String Global × Vec IncludeEntry)) (e : Entry) (r : Result (Unit {0}) Error) (P : List ℕ → Type 0) → entry_in es ≡ e → IsStrictlySortedBy string_cmp (keys_of es)
    → OnOk r (length (map result_in es) < 2 ^ 64) → OnOk r (AllByRecursion FitsResult (map result_in es)) → OnOk r (P (entry_bytes (map result_in es))) → OnOk r ((text : List ℕ) × EntryText e text × P text)
is_written es e (Err x) P view sorted count fits text = tt
is_written es e (Ok u) P view sorted count fits text =
    let same : entries e ≡ map result_in es = ap entries (sym view) ∙ entries_in es sorted in
    (entry_bytes (map result_in es), record { count = rw same count; each = rw same fits; text = rw same refl }, text)
