-- Going through the results from the greatest key down, whatever they are read off.
use Rattle.std.proofs.Common.{◌≡◌, ℕ, ◌≤◌, ◌⊎◌, inl, inr, Bool, true, false, ◌&&◌, List, [], ◌∷◌, ◌++◌, map, reverse, Option, Some, None, refl, sym, ap, ◌∙◌, arith, append_assoc}
use Rattle.std.specs.Prelude.{Contains}
use Rattle.std.specs.List.{find, list_all}
use Rattle.std.proofs.lemmas.List.{map_push, map-append, reverse-append}
use Rattle.std.proofs.lemmas.List.Elements.{Contains-append_right}
use Rattle.cck_files.specs.Calls.{Rose}
use Rattle.cck_entry.specs.Find.{found_in, IsLookup}
use Rattle.cck_entry.specs.Results.{KeyResult}
use Rattle.cck_files.proofs.CallsLemmas.{rose_later, rose_earlier}
use Rattle.cck_include.specs.Include.{Include}
use Rattle.cck_entry.specs.Matching.{MayMiss}

reverse_push : {A : Type 0} (xs : List A) (x : A) → reverse (xs ++ x ∷ []) ≡ x ∷ reverse xs
reverse_push xs x = reverse-append xs (x ∷ [])

found_push : (m : Include → Bool) (rs : List (KeyResult)) (r : KeyResult) (b : Bool) → list_all m r.1 ≡ b → found_in m (rs ++ r ∷ []) ≡ elim b [ true ↦ Some r | false ↦ found_in m rs ]
found_push m rs r true e = ap (find (λ r. list_all m r.1)) (reverse_push rs r) ∙ rw e refl
found_push m rs r false e = ap (find (λ r. list_all m r.1)) (reverse_push rs r) ∙ rw e refl

-- one more that does not match
pub misses : {A : Type 0} (shown : A → KeyResult) (m : Include → Bool) (s t : List A) (x : A) (total : Option (KeyResult)) (a b c : ℕ) → s ≡ t ++ x ∷ [] → a ≤ b → b ≤ c
    → (found_in m (map shown s) ≡ total) ⊎ Rose a b → MayMiss (Rose b c) false (list_all m ((shown x).1)) → (found_in m (map shown t) ≡ total) ⊎ Rose a c
misses {A = A} shown m s t x total a b c e le le' (inr risen) is_match = inr (rose_later a b c le' risen)
misses {A = A} shown m s t x total a b c e le le' (inl same) (inr risen) = inr (rose_earlier a b c le risen)
misses {A = A} shown m s t x total a b c e le le' (inl same) (inl differs) =
    inl (sym (ap (λ (l : List A). found_in m (map shown l)) e ∙ ap (found_in m) (map_push shown t x) ∙ found_push m (map shown t) (shown x) false differs) ∙ same)

contains_at : {A : Type 0} (xs ys : List A) (x : A) → Contains (xs ++ x ∷ ys) x
contains_at xs ys x = Contains-append_right xs (x ∷ ys) x (0, omega arith, refl)

-- one that matches
pub hits : {A : Type 0} (shown : A → KeyResult) (m : Include → Bool) (all s t rest : List A) (x : A) (a b c : ℕ) → s ≡ t ++ x ∷ [] → all ≡ s ++ rest → b ≤ c
    → (found_in m (map shown s) ≡ found_in m (map shown all)) ⊎ Rose a b → list_all m ((shown x).1) ≡ true → IsLookup m (map shown all) (Rose a c) (Some ((shown x).0))
hits {A = A} shown m all s t rest x a b c e f le so_far fits =
    let found : found_in m (map shown s) ≡ Some (shown x) = ap (λ (l : List A). found_in m (map shown l)) e ∙ ap (found_in m) (map_push shown t x) ∙ found_push m (map shown t) (shown x) true fits in
    let place : map shown all ≡ map shown t ++ shown x ∷ map shown rest = ap (map shown) (f ∙ ap (λ (l : List A). l ++ rest) e ∙ append_assoc t (x ∷ []) rest) ∙ map-append shown t (x ∷ rest) in (
      (shown x).1,
      rw place (contains_at (map shown t) (map shown rest) (shown x)),
      fits,
      elim so_far [ inl same ↦ inl (sym same ∙ found) | inr risen ↦ inr (rose_later a b c le risen) ],
    )

-- the end
pub none_left : {A : Type 0} (shown : A → KeyResult) (m : Include → Bool) (all s : List A) (a b : ℕ) → s ≡ [] → (found_in m (map shown s) ≡ found_in m (map shown all)) ⊎ Rose a b → IsLookup m (map shown all) (Rose a b) None
none_left {A = A} shown m all s a b e (inl same) = inl (sym same ∙ ap (λ (l : List A). found_in m (map shown l)) e)
none_left {A = A} shown m all s a b e (inr risen) = inr risen

-- ---- the includes of one result

-- all that are left match where the result does
pub one_misses : (m : Include → Bool) (i : Include) (rest following all : List Include) (a b c : ℕ) → rest ≡ i ∷ following → a ≤ b → MayMiss (Rose b c) false (m i) → list_all m rest ≡ list_all m all
    → MayMiss (Rose a c) false (list_all m all)
one_misses m i rest following all a b c is le (inl differs) e = inl (sym e ∙ ap (list_all m) is ∙ ap (λ t. t && list_all m following) differs)
one_misses m i rest following all a b c is le (inr risen) e = inr (rose_earlier a b c le risen)
