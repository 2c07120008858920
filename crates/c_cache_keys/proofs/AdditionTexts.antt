-- Entries of one result, and the text of an entry to which one was added.
use Rattle.std.proofs.Common.{◌≡◌, ◌⊎◌, ◌≤◌, ◌<◌, arith, get_or, inl, inr, List, [], ◌∷◌, ◌≢◌, length, map, sym, ap, ◌∙◌, subst, Option, None, Some}
use Rattle.std.specs.Prelude.{MatchOption}
use Rattle.std.specs.FinMap.{empty, entries, insert, same_entries_map}
use Rattle.std.proofs.lemmas.List.{length-map}
use Rattle.cck_entry.proofs.EntryLemmas.{entries_of_empty}
use Rattle.cck_entry.specs.Entry.{Entry, EntryText, added}
use Rattle.cck_entry.specs.Lent.{result_lent}
use Rattle.cck_entry.specs.Results.{KeyResult}
use Rattle.cck_entry.specs.declared.result_ref.ResultRef.{ResultRef}
use Rattle.cck_include.specs.Include.{Include}
use Rattle.cck_path.specs.Bytes.{Bytes}
use Rattle.cck_hasher.proofs.Includes.{entries-alone}
use Rattle.c_cache_keys.specs.Additions.{IsAddition, adds}
use Rattle.c_cache_keys.specs.SnapshotLaws.{HasOneResult}

nothing_there : (r : KeyResult) (e : Entry) → e ≡ empty → entries e ≡ r ∷ [] → ⊥
nothing_there r e is one = let none : ◌≡◌ {A = List KeyResult} [] (r ∷ []) = sym (ap (λ (f : Entry). entries f) is ∙ entries_of_empty) ∙ one in cc

-- an entry that was read and has one result
one_text : (e : Entry) (bytes : Bytes) (rs : List ResultRef) (lent : ResultRef) → EntryText e bytes ⊎ ((bytes ≡ []) × (e ≡ empty)) → entries e ≡ map result_lent rs → rs ≡ lent ∷ []
    → EntryText (insert empty (result_lent lent).0 (result_lent lent).1) bytes
one_text e bytes rs lent (inl text) are one =
    subst (λ v. EntryText v bytes) (same_entries_map e (insert empty (result_lent lent).0 (result_lent lent).1) (are ∙ ap (map result_lent) one ∙ sym (entries-alone (result_lent lent).0 (result_lent lent).1))) text
one_text e bytes rs lent (inr (is, none)) are one = absurd (nothing_there (result_lent lent) e none (are ∙ ap (map result_lent) one))

-- the bytes of an entry that was read and has not one result
not_one_text : (e : Entry) (bytes : Bytes) (rs : List ResultRef) → ((f : Entry) → EntryText f bytes → e ≡ f) → entries e ≡ map result_lent rs → (length rs ≡ 1 → ⊥) → HasOneResult bytes → ⊥
not_one_text e bytes rs only are other (key, includes, text) =
    other (sym (length-map rs result_lent) ∙ ap length (sym are ∙ ap (λ (f : Entry). entries f) (only (insert empty key includes) text) ∙ entries-alone key includes))

-- what is found of its results
pub one_of_view : (e : Entry) (bytes : Bytes) (rs : List ResultRef) (found : Option ResultRef) → EntryText e bytes ⊎ ((bytes ≡ []) × (e ≡ empty)) → ((f : Entry) → EntryText f bytes → e ≡ f)
    → entries e ≡ map result_lent rs → MatchOption found (length rs ≢ 1) (λ lent. rs ≡ lent ∷ [])
    → MatchOption found (HasOneResult bytes → ⊥) (λ lent. EntryText (insert empty (result_lent lent).0 (result_lent lent).1) bytes)
one_of_view e bytes rs None reads only are other = not_one_text e bytes rs only are other
one_of_view e bytes rs (Some lent) reads only are one = one_text e bytes rs lent reads are one

-- the text of an entry to which a result was added
pub added_by : (held one text : Bytes) (e f : Entry) (key : Bytes) (includes : List Include) → EntryText e held → EntryText (insert empty key includes) one → f ≡ added e key includes → EntryText f text
    → IsAddition held one text
added_by held one text e f key includes is_held is_one is is_text = adds e key includes is_held is_one (subst (λ v. EntryText v text) is is_text)

-- the one element of a list
pub one_element : (rs : List ResultRef) (x : ResultRef) → 1 ≤ length rs → length rs < 2 → x ≡ get_or rs 0 x → rs ≡ x ∷ []
one_element [] x some few is = absurd (omega (arith, some))
one_element (y ∷ []) x some few is = ap (λ v. v ∷ []) (sym is)
one_element (y ∷ z ∷ ys) x some few is = absurd (omega (arith, few))
