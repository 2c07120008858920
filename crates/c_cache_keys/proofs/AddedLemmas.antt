-- The results of an entry to which one was added.
use Rattle.std.proofs.Common.{◌≡◌, ◌⊎◌, inl, inr, Bool, true, false, List, [], ◌∷◌, length, refl, sym, ap, ◌∙◌, subst}
use Rattle.std.specs.Prelude.{Contains, MatchBool}
use Rattle.std.specs.Cmp.Lexicographic.{nat_list_cmp_total}
use Rattle.std.specs.FinMap.{empty, entries, entries-insert, insert, nat_cmp-IsAntisymmetric, slice_cmp-IsAntisymmetric}
use Rattle.std.specs.FinMap.Entries.{by_order, put}
use Rattle.std.specs.declared.cmp.Ordering.{Ordering}
use Rattle.std.specs.declared.cmp.Ordering.TheVariants.{Equal, Greater, Less}
use Rattle.cck_entry.proofs.EntryLemmas.{entries_of_empty}
use Rattle.cck_entry.proofs.LawLemmas.{added_to_all_or_nothing}
use Rattle.cck_entry.specs.Entry.{Entry, added, is_over}
use Rattle.cck_entry.specs.Results.{KeyResult}
use Rattle.cck_include.specs.Include.{Include}
use Rattle.cck_path.specs.Bytes.{Bytes}
use Rattle.cck_path.specs.TextOrder.{text_cmp}
use Rattle.cck_hasher.proofs.Elements.{first_in, later_in, none_in, one_of}

-- the new result, or one of these
abbrev OldOrNew : Bytes → List Include → List KeyResult → KeyResult → Type 0
OldOrNew key list rs r = (r ≡ (key, list)) ⊎ Contains rs r

same_key : (k x : Bytes) → text_cmp k x ≡ Equal → k ≡ x
same_key k x e = slice_cmp-IsAntisymmetric nat_cmp-IsAntisymmetric k x e

put_by : (key : Bytes) (list : List Include) (x : KeyResult) (xs : List KeyResult) (r : KeyResult) (o : Ordering) → text_cmp key x.0 ≡ o
    → (Contains (put text_cmp key list xs) r → OldOrNew key list xs r)
    → Contains (by_order o ((key, list) ∷ x ∷ xs) ((x.0, list) ∷ xs) (x ∷ put text_cmp key list xs)) r → OldOrNew key list (x ∷ xs) r
put_by key list x xs r Less is more at = elim (one_of (key, list) r (x ∷ xs) at) [ inl same ↦ inl (sym same) | inr old ↦ inr old ]
put_by key list x xs r Equal is more at =
    elim (one_of (x.0, list) r xs at) [
      | inl same ↦ inl (sym same ∙ ap (λ (k : Bytes). (k, list)) (sym (same_key key x.0 is)))
      | inr old ↦ inr (later_in x r xs old)
    ]
put_by key list x xs r Greater is more at =
    elim (one_of x r (put text_cmp key list xs) at) [
      | inl same ↦ inr (subst (λ v. Contains (x ∷ xs) v) same (first_in x xs))
      | inr later ↦ elim (more later) [ inl new ↦ inl new | inr old ↦ inr (later_in x r xs old) ]
    ]

put_in : (key : Bytes) (list : List Include) (xs : List KeyResult) (r : KeyResult) → Contains (put text_cmp key list xs) r → OldOrNew key list xs r
put_in key list [] r at = elim (one_of (key, list) r [] at) [ inl same ↦ inl (sym same) | inr none ↦ inr none ]
put_in key list (x ∷ xs) r at = put_by key list x xs r (text_cmp key x.0) refl (put_in key list xs r) at

insert_in : (e : Entry) (key : Bytes) (list : List Include) (r : KeyResult) → Contains (entries (insert e key list)) r → OldOrNew key list (entries e) r
insert_in e key list r at = put_in key list (entries e) r (subst (λ es. Contains es r) (entries-insert nat_list_cmp_total e key list) at)

pub no_result : (r : KeyResult) → Contains (entries (empty {K = Bytes} {X = List Include} {R = text_cmp})) r → ⊥
no_result r at = none_in r (subst (λ es. Contains es r) entries_of_empty at)

added_in : (e : Entry) (key : Bytes) (list : List Include) (r : KeyResult) (b : Bool) → MatchBool b (added e key list ≡ insert empty key list) (added e key list ≡ insert e key list)
    → Contains (entries (added e key list)) r → OldOrNew key list (entries e) r
added_in e key list r true is at =
    elim (insert_in empty key list r (subst (λ f. Contains (entries f) r) is at)) [ inl new ↦ inl new | inr old ↦ absurd (no_result r old) ]
added_in e key list r false is at = insert_in e key list r (subst (λ f. Contains (entries f) r) is at)

-- a result of `added` is the one that was added, or one that the entry had before
pub added_is_old_or_new : (e : Entry) (key : Bytes) (list : List Include) (q : Bytes) (found : List Include) → Contains (entries (added e key list)) (q, found)
    → ((q ≡ key) × (found ≡ list)) ⊎ Contains (entries e) (q, found)
added_is_old_or_new e key list q found at =
    elim (added_in e key list (q, found) (is_over e _) (added_to_all_or_nothing e key list) at) [
      | inl new ↦ inl (ap (λ (r : KeyResult). r.0) new, ap (λ (r : KeyResult). r.1) new)
      | inr old ↦ inr old
    ]

-- ---- what stays

has_new_by : (key : Bytes) (list : List Include) (x : KeyResult) (xs : List KeyResult) (o : Ordering) → text_cmp key x.0 ≡ o → Contains (put text_cmp key list xs) (key, list)
    → Contains (by_order o ((key, list) ∷ x ∷ xs) ((x.0, list) ∷ xs) (x ∷ put text_cmp key list xs)) (key, list)
has_new_by key list x xs Less is more = first_in (key, list) (x ∷ xs)
has_new_by key list x xs Equal is more = subst (λ (k : Bytes). Contains ((k, list) ∷ xs) (key, list)) (same_key key x.0 is) (first_in (key, list) xs)
has_new_by key list x xs Greater is more = later_in x (key, list) (put text_cmp key list xs) more

has_new : (key : Bytes) (list : List Include) (xs : List KeyResult) → Contains (put text_cmp key list xs) (key, list)
has_new key list [] = first_in (key, list) []
has_new key list (x ∷ xs) = has_new_by key list x xs (text_cmp key x.0) refl (has_new key list xs)

has_old_by : (key : Bytes) (list : List Include) (x : KeyResult) (xs : List KeyResult) (r : KeyResult) (o : Ordering) → text_cmp key x.0 ≡ o → (r.0 ≡ key → ⊥)
    → (Contains xs r → Contains (put text_cmp key list xs) r) → Contains (x ∷ xs) r
    → Contains (by_order o ((key, list) ∷ x ∷ xs) ((x.0, list) ∷ xs) (x ∷ put text_cmp key list xs)) r
has_old_by key list x xs r Less is other more at = later_in (key, list) r (x ∷ xs) at
has_old_by key list x xs r Equal is other more at =
    elim (one_of x r xs at) [
      | inl same ↦ absurd (other (ap (λ (v : KeyResult). v.0) (sym same) ∙ sym (same_key key x.0 is)))
      | inr later ↦ later_in (x.0, list) r xs later
    ]
has_old_by key list x xs r Greater is other more at =
    elim (one_of x r xs at) [
      | inl same ↦ subst (λ v. Contains (x ∷ put text_cmp key list xs) v) same (first_in x (put text_cmp key list xs))
      | inr later ↦ later_in x r (put text_cmp key list xs) (more later)
    ]

has_old : (key : Bytes) (list : List Include) (xs : List KeyResult) (r : KeyResult) → (r.0 ≡ key → ⊥) → Contains xs r → Contains (put text_cmp key list xs) r
has_old key list [] r other at = absurd (none_in r at)
has_old key list (x ∷ xs) r other at = has_old_by key list x xs r (text_cmp key x.0) refl other (has_old key list xs r other) at

insert_has : (e : Entry) (key : Bytes) (list : List Include) → Contains (entries (insert e key list)) (key, list)
insert_has e key list = subst (λ es. Contains es (key, list)) (sym (entries-insert nat_list_cmp_total e key list)) (has_new key list (entries e))

added_has : (e : Entry) (key : Bytes) (list : List Include) (b : Bool) → MatchBool b (added e key list ≡ insert empty key list) (added e key list ≡ insert e key list)
    → Contains (entries (added e key list)) (key, list)
added_has e key list true is = subst (λ f. Contains (entries f) (key, list)) (sym is) (insert_has empty key list)
added_has e key list false is = subst (λ f. Contains (entries f) (key, list)) (sym is) (insert_has e key list)

-- the added result is there
pub added_is_in : (e : Entry) (key : Bytes) (list : List Include) → Contains (entries (added e key list)) (key, list)
added_is_in e key list = added_has e key list (is_over e (length list)) (added_to_all_or_nothing e key list)

-- and so is each other one, if no limit is exceeded
pub others_stay : (e : Entry) (key : Bytes) (list : List Include) (q : Bytes) (found : List Include) → is_over e (length list) ≡ false → (q ≡ key → ⊥)
    → Contains (entries e) (q, found) → Contains (entries (added e key list)) (q, found)
others_stay e key list q found under other at =
    let is : added e key list ≡ insert e key list = subst (λ b. MatchBool b (added e key list ≡ insert empty key list) (added e key list ≡ insert e key list)) under (added_to_all_or_nothing e key list) in
    subst (λ f. Contains (entries f) (q, found)) (sym is)
    (subst (λ es. Contains es (q, found)) (sym (entries-insert nat_list_cmp_total e key list)) (has_old key list (entries e) (q, found) other at))
