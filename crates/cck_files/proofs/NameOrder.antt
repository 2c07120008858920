-- The names of a sorted listing.
use Rattle.std.proofs.Common.{◌≡◌, ℕ, ◌+◌, ◌≤◌, ◌<◌, List, [], ◌∷◌, ◌++◌, length, Bool, true, false, ◌||◌, cond, refl, ◌∙◌, ap, arith, get_or, map, zero, suc, add-one}
use Rattle.std.specs.Prelude.{T, count_by, is_some}
use Rattle.std.specs.List.Sorted.{IsSortedBy, IsPermutation}
use Rattle.std.specs.declared.cmp.Ordering.TheVariants.{Less, Equal, Greater}
use Rattle.std.specs.Ordering.{is_eq, is_lt, nat_cmp, ordering_reverse}
use Rattle.std.specs.Cmp.Lexicographic.{slice_cmp, nat_list_cmp_total}
use Rattle.std.specs.FinMap.{get}
use Rattle.std.proofs.lemmas.List.Sums.{sum_by-cons}
use Rattle.std.proofs.lemmas.List.Sorted.{IsPermutation-map, sum_by-IsPermutation, All-permutation}
use Rattle.std.proofs.lemmas.List.Elements.{recursion_from_All, All-from_recursion}
use Rattle.cck_path.specs.Path.{Path, Name, component_cmp, IsName}
use Rattle.cck_files.specs.Children.{is_same_name}
use Rattle.cck_files.specs.FileMap.{FileMap, IsListing}
use Rattle.cck_files.proofs.NamesLemmas.{one_if, same_itself}
use Rattle.cck_path.proofs.TestLemmas.{T_and, true_from_T}
use Rattle.cck_files.specs.Folder.{rises, any_name, AreChildNames}

count_first : (n : List ℕ) (xs : List (List ℕ)) → count_by (is_same_name n) (n ∷ xs) ≡ 1 + count_by (is_same_name n) xs
count_first n xs = sum_by-cons (λ x. cond (is_same_name n x) 1 0) n xs ∙ ap (λ b. cond b 1 0 + count_by (is_same_name n) xs) (same_itself n)

pub count_cons : (n x : List ℕ) (xs : List (List ℕ)) → count_by (is_same_name n) (x ∷ xs) ≡ cond (is_same_name n x) 1 0 + count_by (is_same_name n) xs
count_cons n x xs = sum_by-cons (λ x. cond (is_same_name n x) 1 0) x xs

-- a name that is counted is in the list
among : (n : List ℕ) (xs : List (List ℕ)) → 1 ≤ count_by (is_same_name n) xs → any_name (Name n) xs ≡ true
among n [] h = absurd (omega arith)
among n (x ∷ xs) h = elim (is_same_name n x) as (λ b. count_by (is_same_name n) (x ∷ xs) ≡ cond b 1 0 + count_by (is_same_name n) xs → (b || any_name (Name n) xs) ≡ true) [
  | true ↦ λ e. refl
  | false ↦ λ e. among n xs (omega (arith, e, h))
] (count_cons n x xs)

counted_at : (xs : List (List ℕ)) (i : ℕ) → i < length xs → 1 ≤ count_by (is_same_name (get_or xs i [])) xs
counted_at [] i h = absurd (omega arith)
counted_at (x ∷ xs) zero h = omega (arith, count_first x xs)
counted_at (x ∷ xs) (suc i) h = let k = counted_at xs i (omega arith) in omega (arith, k, count_cons (get_or xs i []) x xs)

not_less_nor_same : (n x : List ℕ) → is_lt (slice_cmp nat_cmp x n) ≡ false → is_same_name n x ≡ false → T (is_lt (slice_cmp nat_cmp n x))
not_less_nor_same n x h k = elim (slice_cmp nat_cmp n x) as (λ o. slice_cmp nat_cmp n x ≡ o → is_eq o ≡ false → T (is_lt o)) [
  | Less ↦ λ e f. tt
  | Equal ↦ λ e f. cc
  | Greater ↦ λ e f. let back : slice_cmp nat_cmp x n ≡ Less = nat_list_cmp_total.antisymm x n ∙ ap ordering_reverse e in cc (ap is_lt back)
] refl k

get_or_after : {X : Type 0} (x : X) (xs : List X) (k : ℕ) (d : X) → get_or (x ∷ xs) (k + 1) d ≡ get_or xs k d
get_or_after x xs k d = rw add-one refl

module _ {X : Type 0} (f : X → List ℕ) where
  abbrev Sorted : List X → Type 0
  Sorted xs = IsSortedBy (λ a b. is_lt (slice_cmp nat_cmp (f a) (f b))) xs

  sorted_rest : (x : X) (xs : List X) → Sorted (x ∷ xs) → Sorted xs
  sorted_rest x xs h k d low k<l = rw (← get_or_after x xs (k + 1) d, ← get_or_after x xs k d) (h (k + 1) d (omega arith) (omega arith))

  rises_if : (xs : List X) → Sorted xs → ((n : List ℕ) → count_by (is_same_name n) (map f xs) ≤ 1) → T (rises (map f xs))
  rises_if [] h one = tt
  rises_if (x ∷ []) h one = tt
  rises_if (x ∷ y ∷ xs) h one =
      let rest = rises_if (y ∷ xs) (sorted_rest x (y ∷ xs) h) (λ n. let k = one n in omega (arith, k, count_cons n (f x) (map f (y ∷ xs)))) in
      let apart : is_same_name (f x) (f y) ≡ false = elim (is_same_name (f x) (f y)) as (λ b. is_same_name (f x) (f y) ≡ b → b ≡ false) [
        | true ↦ λ e. absurd (omega (arith, one (f x), count_first (f x) (map f (y ∷ xs)), count_cons (f x) (f y) (map f xs), ap one_if e))
        | false ↦ λ e. refl
      ] refl in
      T_and (is_lt (component_cmp (Name (f x)) (Name (f y)))) (rises (map f (y ∷ xs))) (not_less_nor_same (f x) (f y) (h 0 x (omega arith) (omega arith)) apart) rest

  -- a sorted listing
  pub in_order : (m : FileMap) (p : Path) (xs ys : List X) → IsListing m p (map f xs) → IsPermutation xs ys → Sorted ys → AreChildNames m.nodes p (map f ys)
  in_order m p xs ys l perm h =
      let moved = IsPermutation-map f xs ys perm in
      let counts : (n : List ℕ) → count_by (is_same_name n) (map f ys) ≡ cond (is_some (get m.nodes (p ++ Name n ∷ []))) 1 0 = λ n. sum_by-IsPermutation (λ x. cond (is_same_name n x) 1 0) (map f xs) (map f ys) moved ∙ l.children.each_once n in
      let few : (b : Bool) → cond b 1 0 ≤ 1 = elim [ true ↦ omega arith | false ↦ omega arith ] in
      record {
        up = true_from_T (rises (map f ys)) (rises_if ys h (λ n. omega (arith, counts n, few (is_some (get m.nodes (p ++ Name n ∷ []))))));
        all = λ n s. among n (map f ys) (omega (arith, counts n, ap one_if s));
        names_only = recursion_from_All IsName (map f ys) (All-permutation IsName (map f xs) (map f ys) moved (All-from_recursion IsName (map f xs) l.children.names_only));
        stand = λ i k. elim (is_some (get m.nodes (p ++ Name (get_or (map f ys) i []) ∷ []))) as (λ b. count_by (is_same_name (get_or (map f ys) i [])) (map f ys) ≡ cond b 1 0 → b ≡ true) [
          | true ↦ λ e. refl
          | false ↦ λ e. absurd (omega (arith, e, counted_at (map f ys) i k))
        ] (counts (get_or (map f ys) i []));
      }
