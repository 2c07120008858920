-- The paths below a directory.
use Rattle.std.proofs.Common.{◌≡◌, ◌≢◌, ◌&&◌, ◌==◌, ℕ, ◌+◌, ◌<◌, ◌≤◌, List, [], ◌∷◌, ◌++◌, length, map, get_or, take, Bool, true, false, not, cond, None, is_some, Ordering, Less, Equal, Greater, refl, sym, ap, ◌∙◌, arith, inl, inr}
use Rattle.std.proofs.Math.Seq.{take-append_seam}
use Rattle.std.proofs.lemmas.Bool.{cases_eq, false≢true, true≢false}
use Rattle.std.proofs.lemmas.Cmp.{tied_itself}
use Rattle.std.proofs.lemmas.List.{get_or_default, length-append}
use Rattle.std.proofs.lemmas.List.Splits.{length-slice_split}
use Rattle.std.proofs.lemmas.List.Sums.{count_by-le-length}
use Rattle.std.specs.List.{flat_map}
use Rattle.std.specs.FinMap.{FinMap, entries, find, get, get-entries, get-retain_keys}
use Rattle.std.specs.Ordering.{is_eq, is_lt, ordering_then}
use Rattle.cck_path.specs.Path.{Component, Current, Name, Parent, Path, Root, beginning, component_cmp, component_cmp-IsAntisymmetric, component_cmp_total, components, inner_components, part_components, parts, path_cmp, path_cmp-IsAntisymmetric, path_cmp_total}
use Rattle.cck_path.proofs.TestLemmas.{then_some}
use Rattle.cck_path.proofs.PlaceLemmas.{find_at, in_order_of, rises}
use Rattle.cck_path.specs.PathMap.{IsPlaceOf, is_from, pair_of, part_from, path_of}
use Rattle.cck_path.specs.declared.path_map.Entry.{Entry}
use Rattle.cck_files.specs.Children.{HasChildNames}

-- a child of a directory is not lower than the directory
child_from : (p : Path) (c : Component) → is_lt (path_cmp (p ++ c ∷ []) p) ≡ false
child_from [] c = refl
child_from (x ∷ p) c = ap (λ o. is_lt (ordering_then o (path_cmp (p ++ c ∷ []) p))) (tied_itself component_cmp_total x) ∙ child_from p c

-- a path from a directory on that is lower than a child of it is below the directory
below_folder : (p q : Path) (c : Component) → is_lt (path_cmp q p) ≡ false → path_cmp q (p ++ c ∷ []) ≡ Less → take (length p) q ≡ p
below_folder [] q c from low = refl
below_folder (x ∷ p) [] c from low = absurd (true≢false from)
below_folder (x ∷ p) (y ∷ q) c from low = by (component_cmp y x) refl from low (below_folder p q c)
  where
    by : (o : Ordering) → component_cmp y x ≡ o → is_lt (ordering_then o (path_cmp q p)) ≡ false → ordering_then o (path_cmp q (p ++ c ∷ [])) ≡ Less
        → (is_lt (path_cmp q p) ≡ false → path_cmp q (p ++ c ∷ []) ≡ Less → take (length p) q ≡ p) → y ∷ take (length p) q ≡ x ∷ p
    by Less is from low next = absurd (true≢false from)
    by Equal is from low next = (λ i. component_cmp-IsAntisymmetric y x is i ∷ next from low i)
    by Greater is from low next = absurd (false≢true (ap is_lt low))

-- a path whose front is not the directory's is not below it
pub not_within : (p q : Path) (n : ℕ) → is_eq (path_cmp (take n q) p) ≡ false → n ≡ length p → take (length p) q ≢ p
not_within p q n test size same = false≢true (sym test ∙ ap (λ r. is_eq (path_cmp r p)) (ap (λ k. take k q) size ∙ same) ∙ ap is_eq (tied_itself path_cmp_total p))

-- ---- the number of components of a path

one_of : (b : Bool) (p q : Path) → length p ≤ 1 → length q ≤ 1 → length (cond b p q) ≤ 1
one_of true p q h k = h
one_of false p q h k = k

part_is_one : (s : List ℕ) → length (part_components s) ≤ 1
part_is_one [] = omega arith
part_is_one (c ∷ []) = one_of (c == 46) [] (Name (c ∷ []) ∷ []) (omega arith) (omega arith)
part_is_one (c ∷ d ∷ []) = one_of ((c == 46) && (d == 46)) (Parent ∷ []) (Name (c ∷ d ∷ []) ∷ []) (omega arith) (omega arith)
part_is_one (c ∷ d ∷ e ∷ s) = omega arith

beginning_is_one : (s : List ℕ) → length (beginning s) ≤ 1
beginning_is_one [] = omega arith
beginning_is_one (c ∷ []) = one_of (c == 47) (Root ∷ []) (cond (c == 46) (Current ∷ []) []) (omega arith) (one_of (c == 46) (Current ∷ []) [] (omega arith) (omega arith))
beginning_is_one (c ∷ d ∷ s) =
    one_of (c == 47) (Root ∷ []) (cond ((c == 46) && (d == 47)) (Current ∷ []) []) (omega arith) (one_of ((c == 46) && (d == 47)) (Current ∷ []) [] (omega arith) (omega arith))

parts_each_one : (ps : List (List ℕ)) → length (flat_map part_components ps) ≤ length ps
parts_each_one [] = omega arith
parts_each_one (s ∷ ps) = omega (arith, length-append (part_components s) (flat_map part_components ps), part_is_one s, parts_each_one ps)

-- a path has at most two components more than bytes
pub few_components : (s : List ℕ) → length (components s) ≤ length s + 2
unfolding components
few_components s =
    let split = length-slice_split (λ c. c == 47) s in
    let count = count_by-le-length (λ c. c == 47) s in
    omega (arith, length-append (beginning s) (inner_components s), beginning_is_one s, parts_each_one (parts s), split, count)

not_true : (b : Bool) → not b ≡ true → b ≡ false
not_true true e = absurd (false≢true e)
not_true false e = refl

module _ {V : Type 0} (p : Path) (m : FinMap path_cmp V) where
  in_part : (q : Path) → get (part_from p m) q ≡ cond (is_from p q) (get m q) None
  in_part q = get-retain_keys m (is_from p) q (λ x e. ap (is_from p) (sym (path_cmp-IsAntisymmetric q x e)))

  -- the children of a directory are in the part of the map from the directory on
  pub children_of_part : (names : List (List ℕ)) → HasChildNames (part_from p m) p names → HasChildNames m p names
  children_of_part names h = record {
    names_only = h.names_only;
    each_once = λ n. h.each_once n ∙ ap (λ o. cond (is_some o) 1 0) (in_part (p ++ Name n ∷ []) ∙ ap (λ b. cond (not b) (get m (p ++ Name n ∷ [])) None) (child_from p (Name n)));
  }

  module _ (es : List (Entry V)) (is : map pair_of es ≡ entries (part_from p m)) (i : ℕ) (low : i < length es) (e : Entry V) (at : e ≡ get_or es i e) where
    none_lower : is_lt (path_cmp (path_of e) p) ≡ false
    none_lower =
        let place : IsPlaceOf (path_of e) es i = record { in_range = low; has_path = λ d. ap path_of (get_or_default es i d e low ∙ sym at) } in
        let found = find_at es (in_order_of es (part_from p m) is) (path_of e) i place e in
        let there = sym (in_part (path_of e)) ∙ get-entries (part_from p m) (path_of e) ∙ ap (find path_cmp (path_of e)) (sym is) ∙ found in
        not_true (is_lt (path_cmp (path_of e) p)) (then_some (is_from p (path_of e)) (get m (path_of e)) (get_or es i e).value there).0

    -- from an entry on that is not below the directory, none is of a child
    pub none_after : take (length p) (path_of e) ≢ p → (n : List ℕ) (k : ℕ) (d : Entry V) → i ≤ k → k < length es → path_of (get_or es k d) ≢ p ++ Name n ∷ []
    none_after other n k d le high same =
        let here = ap path_of (at ∙ get_or_default es i e d low) in
        elim (cases_eq k i) [
          | inl is_here ↦ other (ap (take (length p)) (here ∙ sym (ap (λ j. path_of (get_or es j d)) is_here) ∙ same) ∙ take-append_seam p (Name n ∷ []))
          | inr past ↦ other (below_folder p (path_of e) (Name n) none_lower
              (ap (λ q. path_cmp q (p ++ Name n ∷ [])) here ∙ ap (path_cmp (path_of (get_or es i d))) (sym same) ∙ rises es (in_order_of es (part_from p m) is) i k d (omega (arith, past, le)) high))
        ]
