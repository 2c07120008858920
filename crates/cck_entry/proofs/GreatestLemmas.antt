-- What is found is the greatest.
use Rattle.std.proofs.Common.{◌≡◌, ◌≢◌, ℕ, Bool, true, false, ◌⊎◌, inl, inr, cond, List, [], ◌∷◌, ◌++◌, reverse, Option, Some, None, refl, sym, ap, ◌∙◌}
use Rattle.std.specs.List.{list_all}
use Rattle.std.specs.List as lists
use Rattle.std.specs.Ordering.{is_eq, ordering_reverse}
use Rattle.std.specs.declared.cmp.Ordering.{Ordering}
use Rattle.std.specs.declared.cmp.Ordering.TheVariants.{Less, Equal, Greater}
use Rattle.std.specs.Cmp.Lexicographic.{nat_list_cmp_total}
use Rattle.std.specs.Cmp.{tied_itself}
use Rattle.std.specs.FinMap.{find, entries, entries_sorted, get-entries, is_sorted, slice_cmp-IsAntisymmetric, nat_cmp-IsAntisymmetric}
use Rattle.std.specs.FinMap.Entries.{below_all}
use Rattle.std.proofs.lemmas.List.{reverse-append}
use Rattle.std.proofs.lemmas.Bool.{and_parts}
use Rattle.cck_include.specs.Include.{Include}
use Rattle.cck_path.proofs.TestLemmas.{true_from_T, less_is}
use Rattle.cck_path.specs.TextOrder.{text_cmp}
use Rattle.cck_entry.specs.Entry.{Entry}
use Rattle.cck_entry.specs.Find.{found_in, IsGreatest}
use Rattle.cck_entry.specs.Results.{KeyResult}

abbrev Rows : Type 0
Rows = List KeyResult

abbrev or_this : Option (KeyResult) → Option (KeyResult) → Option (KeyResult)
or_this (Some x) o = Some x
or_this None o = o

find_last_by : (x : KeyResult) (xs : Rows) (y : KeyResult) (q : KeyResult → Bool) (b : Bool) → lists.find q (xs ++ y ∷ []) ≡ or_this (lists.find q xs) (cond (q y) (Some y) None)
    → cond b (Some x) (lists.find q (xs ++ y ∷ [])) ≡ or_this (cond b (Some x) (lists.find q xs)) (cond (q y) (Some y) None)
find_last_by x xs y q true h = refl
find_last_by x xs y q false h = h

find_last : (q : KeyResult → Bool) (xs : Rows) (y : KeyResult) → lists.find q (xs ++ y ∷ []) ≡ or_this (lists.find q xs) (cond (q y) (Some y) None)
find_last q [] y = refl
find_last q (x ∷ xs) y = find_last_by x xs y q (q x) (find_last q xs y)

found_cons : (m : Include → Bool) (r : KeyResult) (rs : Rows) → found_in m (r ∷ rs) ≡ or_this (found_in m rs) (cond (list_all m r.1) (Some r) None)
found_cons m r rs = ap (lists.find (λ x. list_all m x.1)) (reverse-append (r ∷ []) rs) ∙ find_last (λ x. list_all m x.1) (reverse rs) r

-- the same of a list of results
abbrev Greatest : (Include → Bool) → Rows → Option (KeyResult) → Type 0
Greatest m rs None = (k : List ℕ) (list : List Include) → find text_cmp k rs ≡ Some list → list_all m list ≡ false
Greatest m rs (Some r) =
    (find text_cmp r.0 rs ≡ Some r.1) × (list_all m r.1 ≡ true) × ((k : List ℕ) (list : List Include) → find text_cmp k rs ≡ Some list → list_all m list ≡ true → text_cmp r.0 k ≢ Less)

same_key : (k x : List ℕ) → text_cmp k x ≡ Equal → k ≡ x
same_key k x e = slice_cmp-IsAntisymmetric nat_cmp-IsAntisymmetric k x e

find_by : (k : List ℕ) (r : KeyResult) (rs : Rows) (l : List Include) (o : Ordering) → text_cmp k r.0 ≡ o → cond (is_eq o) (Some r.1) (find text_cmp k rs) ≡ Some l → ((k ≡ r.0) × (r.1 ≡ l)) ⊎ (find text_cmp k rs ≡ Some l)
find_by k r rs l Less e h = inr h
find_by k r rs l Equal e h = inl (same_key k r.0 e, cc)
find_by k r rs l Greater e h = inr h

find_cases : (k : List ℕ) (r : KeyResult) (rs : Rows) (l : List Include) → find text_cmp k (r ∷ rs) ≡ Some l → ((k ≡ r.0) × (r.1 ≡ l)) ⊎ (find text_cmp k rs ≡ Some l)
find_cases k r rs l h = find_by k r rs l (text_cmp k r.0) refl h

below_key : (r : KeyResult) (rs : Rows) (k : List ℕ) (l : List Include) → below_all text_cmp r.0 rs ≡ true → find text_cmp k rs ≡ Some l → text_cmp r.0 k ≡ Less
below_key r [] k l b h = absurd cc
below_key r (x ∷ rs) k l b h =
    elim (find_cases k x rs l h) [
      | inl here ↦ ap (text_cmp r.0) here.0 ∙ less_is _ (and_parts _ _ b).0
      | inr there ↦ below_key r rs k l (and_parts _ _ b).1 there
    ]

above : (a b : List ℕ) → text_cmp a b ≡ Less → text_cmp b a ≡ Greater
above a b e = nat_list_cmp_total.antisymm b a ∙ ap ordering_reverse e

not_less : (o : Ordering) → o ≡ Greater → o ≢ Less
not_less o e h = let x : ◌≡◌ {A = Ordering} Greater Less = sym e ∙ h in absurd cc

not_less_equal : (o : Ordering) → o ≡ Equal → o ≢ Less
not_less_equal o e h = let x : ◌≡◌ {A = Ordering} Equal Less = sym e ∙ h in absurd cc

false_true : (b : Bool) → b ≡ false → b ≡ true → ⊥
false_true b p q = absurd cc

step : (m : Include → Bool) (r : KeyResult) (rs : Rows) (o : Option (KeyResult)) (b : Bool) → below_all text_cmp r.0 rs ≡ true → list_all m r.1 ≡ b → Greatest m rs o → Greatest m (r ∷ rs) (or_this o (cond b (Some r) None))
step m r rs (Some x) b below is h =
    let up : text_cmp x.0 r.0 ≡ Greater = above r.0 x.0 (below_key r rs x.0 x.1 below h.0) in (
      rw up h.0,
      h.1,
      λ k list e f. elim (find_cases k r rs list e) [
        | inl here ↦ λ lt. not_less _ (ap (text_cmp x.0) here.0 ∙ up) lt
        | inr there ↦ h.2 k list there f
      ],
    )
step m r rs None true below is h =
    let same : text_cmp r.0 r.0 ≡ Equal = tied_itself nat_list_cmp_total r.0 in (
      rw same refl,
      is,
      λ k list e f. elim (find_cases k r rs list e) [
        | inl here ↦ λ lt. not_less_equal _ (ap (text_cmp r.0) here.0 ∙ same) lt
        | inr there ↦ absurd (false_true _ (h k list there) f)
      ],
    )
step m r rs None false below is h =
    λ k list e. elim (find_cases k r rs list e) [
      | inl here ↦ ap (list_all m) (sym here.1) ∙ is
      | inr there ↦ h k list there
    ]

greatest_in : (m : Include → Bool) (rs : Rows) → is_sorted text_cmp rs ≡ true → Greatest m rs (found_in m rs)
greatest_in m [] s = λ k list e. absurd cc
greatest_in m (r ∷ rs) s = rw (found_cons m r rs) (step m r rs (found_in m rs) (list_all m r.1) (and_parts _ _ s).0 refl (greatest_in m rs (and_parts _ _ s).1))

by_get : (m : Include → Bool) (e : Entry) (o : Option (KeyResult)) → Greatest m (entries e) o → IsGreatest m e o
by_get m e None h = λ k list is. h k list (sym (get-entries e k) ∙ is)
by_get m e (Some r) h = (get-entries e r.0 ∙ h.0, h.1, λ k list is f. h.2 k list (sym (get-entries e k) ∙ is) f)

pub greatest_of : (m : Include → Bool) (e : Entry) → IsGreatest m e (found_in m (entries e))
greatest_of m e = by_get m e (found_in m (entries e)) (greatest_in m (entries e) (true_from_T _ (entries_sorted e)))
