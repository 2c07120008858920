-- Which result of an entry is found.
use Rattle.std.proofs.Common.{◌≡◌, inl, inr, Bool, true, false, cond, List, [], ◌∷◌, reverse, refl, sym, ap, ◌∙◌, subst, Some}
use Rattle.std.specs.Prelude.{Contains}
use Rattle.std.specs.List.{find, list_all}
use Rattle.std.proofs.lemmas.Bool.{false≢true}
use Rattle.std.proofs.lemmas.List.{reverse-append, reverse-reverse}
use Rattle.std.proofs.lemmas.List.Elements.{Contains-append_left, Contains-append_right}
use Rattle.std.proofs.lemmas.Option.{none-some, same_Some}
use Rattle.cck_entry.specs.Find.{found_in}
use Rattle.cck_entry.specs.Results.{KeyResult}
use Rattle.cck_include.specs.Include.{Include}
use Rattle.cck_path.specs.Bytes.{Bytes}
use Rattle.cck_hasher.proofs.Elements.{first_in, later_in, none_in, one_of}

-- an element that passes is found, or one before it
finds : {X : Type 0} (test : X → Bool) (xs : List X) (x : X) → Contains xs x → test x ≡ true → (y : X) × (find test xs ≡ Some y)
finds test [] x at passes = absurd (none_in x at)
finds {X} test (y ∷ xs) x at passes = by (test y) refl (λ later. finds test xs x later passes)
  where
    by : (b : Bool) → test y ≡ b → (Contains xs x → (z : X) × (find test xs ≡ Some z)) → (z : X) × (cond (test y) (Some y) (find test xs) ≡ Some z)
    by true is more = (y, ap (λ v. cond v (Some y) (find test xs)) is)
    by false is more =
        elim (one_of y x xs at) [
          | inl same ↦ absurd (false≢true (sym is ∙ ap test same ∙ passes))
          | inr later ↦ (let (z, found) = more later in (z, ap (λ v. cond v (Some y) (find test xs)) is ∙ found))
        ]

in_reverse : {X : Type 0} (xs : List X) (x : X) → Contains xs x → Contains (reverse xs) x
in_reverse [] x at = absurd (none_in x at)
in_reverse (y ∷ xs) x at =
    subst (λ ys. Contains ys x) (sym (reverse-append (y ∷ []) xs))
    (elim (one_of y x xs at) [
      | inl same ↦ Contains-append_right (reverse xs) (y ∷ []) x (subst (Contains (y ∷ [])) same (first_in y []))
      | inr later ↦ Contains-append_left (reverse xs) (y ∷ []) x (in_reverse xs x later)
    ])

-- where a result of an entry matches, one is found
pub found_some : (test : Include → Bool) (results : List KeyResult) (key : Bytes) (list : List Include) → Contains results (key, list) → list_all test list ≡ true
    → (greatest : Bytes) × (includes : List Include) × (found_in test results ≡ Some (greatest, includes))
found_some test results key list at all =
    let (r, is) = finds (λ (r : KeyResult). list_all test (r.1)) (reverse results) (key, list) (in_reverse results (key, list) at) all in
    (r.0, r.1, is)

from_reverse : {X : Type 0} (xs : List X) (x : X) → Contains (reverse xs) x → Contains xs x
from_reverse xs x at = subst (λ ys. Contains ys x) (reverse-reverse xs) (in_reverse (reverse xs) x at)

-- what is found is there, and passes
find_has : {X : Type 0} (test : X → Bool) (xs : List X) (x : X) → find test xs ≡ Some x → Contains xs x × (test x ≡ true)
find_has test [] x is = absurd (none-some _ is)
find_has {X} test (y ∷ xs) x is = by (test y) refl is (find_has test xs x)
  where
    by : (b : Bool) → test y ≡ b → cond b (Some y) (find test xs) ≡ Some x → (find test xs ≡ Some x → Contains xs x × (test x ≡ true)) → Contains (y ∷ xs) x × (test x ≡ true)
    by true passes is later = let same = same_Some y x is in (subst (Contains (y ∷ xs)) same (first_in y xs), ap test (sym same) ∙ passes)
    by false fails is later = let (at, passes) = later is in (later_in y x xs at, passes)

pub found_has : (test : Include → Bool) (results : List KeyResult) (r : KeyResult) → found_in test results ≡ Some r → Contains results r × (list_all test (r.1) ≡ true)
found_has test results r is = let (at, passes) = find_has (λ (r : KeyResult). list_all test (r.1)) (reverse results) r is in (from_reverse results r at, passes)

-- tests that agree on the elements find the same one
find_same : {X : Type 0} (p q : X → Bool) (xs : List X) → ((x : X) → Contains xs x → p x ≡ q x) → find p xs ≡ find q xs
find_same p q [] same = refl
find_same p q (x ∷ xs) same =
    ap (λ b. cond b (Some x) (find p xs)) (same x (first_in x xs)) ∙ ap (cond (q x) (Some x)) (find_same p q xs (λ y at. same y (later_in x y xs at)))

pub found_same : (p q : Include → Bool) (results : List KeyResult) → ((r : KeyResult) → Contains results r → list_all p (r.1) ≡ list_all q (r.1)) → found_in p results ≡ found_in q results
found_same p q results same = find_same (λ (r : KeyResult). list_all p (r.1)) (λ (r : KeyResult). list_all q (r.1)) (reverse results) (λ r at. same r (from_reverse results r at))
