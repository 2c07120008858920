-- The entries from a path on.
use Rattle.std.proofs.Common.{◌≡◌, Global, ℕ, zero, suc, ◌+◌, ◌<◌, ◌≤◌, List, [], ◌∷◌, ◌++◌, length, map, get_or, take, drop, Bool, true, false, not, cond, Option, Some, None, refl, sym, ap, ◌∙◌, arith, length-append, inl, inr}
use Rattle.std.proofs.lemmas.Bool.{cases_eq, true≢false}
use Rattle.std.proofs.lemmas.Cmp.{tied_itself}
use Rattle.std.proofs.lemmas.List.{drop-append-le}
use Rattle.std.proofs.Math.Seq.{drop-append-add}
use Rattle.std.specs.FinMap.{entries, entries-from_sorted, find, from_sorted, get-from_sorted, get-retain_keys, same_map}
use Rattle.std.specs.Ordering.{eq_by_cmp, is_lt}
use Rattle.std.specs.Prelude.{Vec}
use Rattle.cck_path.specs.Path.{Path, path_cmp, path_cmp_total, path_cmp-IsAntisymmetric}
use Rattle.cck_path.proofs.TestLemmas.{tied}
use Rattle.cck_path.specs.Blocks.{entries_of, start_of}
use Rattle.cck_path.specs.PathMap.{IsGapFor, IsInOrder, IsPlaceOf, is_from, pair_of, part_from, path_of}
use Rattle.cck_path.specs.declared.path_map.Entry.{Entry}
use Rattle.cck_path.proofs.PlaceLemmas.{higher, rest_in_order, rises}

module _ {V : Type 0} where
  -- the entries from a place of a block on
  pub drop_in : (bs : List (Vec (Entry V) Global)) (k j : ℕ) (d : Vec (Entry V) Global) → k < length bs → j ≤ length (get_or bs k d).items
      → drop j (get_or bs k d).items ++ entries_of (drop (k + 1) bs) ≡ drop (start_of bs k + j) (entries_of bs)
  drop_in [] k j d h le = absurd (omega arith)
  drop_in (b ∷ bs) zero j d h le =
      let zeroth : 0 + j ≡ j = omega arith in
      rw zeroth (sym (drop-append-le j b.items (entries_of bs) le))
  drop_in (b ∷ bs) (suc k) j d h le =
      let next : suc k + 1 ≡ suc (k + 1) = omega arith in
      let long = length-append b.items (entries_of (take k bs)) in
      let place : length b.items + (start_of bs k + j) ≡ length (b.items ++ entries_of (take k bs)) + j = omega arith in
      rw next (drop_in bs k j d (omega arith) le ∙ sym (drop-append-add b.items (entries_of bs) (start_of bs k + j)) ∙ ap (λ n. drop n (b.items ++ entries_of bs)) place)

  -- the paths before a place are lower than a path, and those from it on are not
  pub record IsCut (p : Path) (es : List (Entry V)) (i : ℕ) : Type 0 where
    pub before : (k : ℕ) (d : Entry V) → k < i → k < length es → is_lt (path_cmp (path_of (get_or es k d)) p) ≡ true
    pub following : (k : ℕ) (d : Entry V) → i ≤ k → k < length es → is_lt (path_cmp (path_of (get_or es k d)) p) ≡ false

  pub cut_at_place : (es : List (Entry V)) → IsInOrder es → (p : Path) (i : ℕ) → IsPlaceOf p es i → IsCut p es i
  cut_at_place es h p i at = record {
    before = λ k d low high. ap (λ q. is_lt (path_cmp (path_of (get_or es k d)) q)) (sym (at.has_path d)) ∙ ap is_lt (rises es h k i d low at.in_range);
    following = λ k d low high. elim (cases_eq k i) [
      | inl same ↦ ap (λ j. is_lt (path_cmp (path_of (get_or es j d)) p)) same ∙ ap (λ q. is_lt (path_cmp q p)) (at.has_path d) ∙ ap is_lt (tied_itself path_cmp_total p)
      | inr other ↦ ap (λ q. is_lt (path_cmp (path_of (get_or es k d)) q)) (sym (at.has_path d)) ∙ ap is_lt (higher (path_of (get_or es i d)) (path_of (get_or es k d)) (rises es h i k d (omega (arith, other, low)) high))
    ];
  }

  pub cut_at_gap : (es : List (Entry V)) (p : Path) (i : ℕ) → IsGapFor p es i → IsCut p es i
  cut_at_gap es p i g = record {
    before = λ k d low high. ap is_lt (g.lower_before k d (omega arith) low);
    following = λ k d low high. ap is_lt (g.higher_after k d low high);
  }

  pub cut_of_none : (es : List (Entry V)) (p : Path) → es ≡ [] → IsCut p es 0
  cut_of_none es p none = record {
    before = λ k d low high. absurd (omega arith);
    following = λ k d low high. let empty : length es ≡ 0 = ap length none in absurd (omega (arith, empty, high));
  }

  -- ---- what is found from a cut on

  next_before : (p : Path) (e : Entry V) (es : List (Entry V)) (i : ℕ) → IsCut p (e ∷ es) (suc i) → IsCut p es i
  next_before p e es i c = record {
    before = λ k d low high. c.before (suc k) d (omega arith) (omega arith);
    following = λ k d low high. c.following (suc k) d (omega arith) (omega arith);
  }

  next_after : (p : Path) (e : Entry V) (es : List (Entry V)) → IsCut p (e ∷ es) 0 → IsCut p es 0
  next_after p e es c = record {
    before = λ k d low high. absurd (omega arith);
    following = λ k d low high. c.following (suc k) d (omega arith) (omega arith);
  }

  none_either : (f : Bool) → ◌≡◌ {A = Option V} None (cond f None None)
  none_either true = refl
  none_either false = refl

  either_found : (a f : Bool) (x y : Option V) → (a ≡ true → f ≡ false) → cond f y None ≡ cond f (cond a x y) None
  either_found true true x y h = absurd (true≢false (h refl))
  either_found true false x y h = refl
  either_found false f x y h = refl

  either_lower : (a f : Bool) (x y : Option V) → (a ≡ true → f ≡ true) → y ≡ cond f y None → cond a x y ≡ cond f (cond a x y) None
  either_lower true true x y h e = refl
  either_lower true false x y h e = absurd (true≢false (sym (h refl)))
  either_lower false f x y h e = e

  found_after : (es : List (Entry V)) (p q : Path) → IsCut p es 0 → find path_cmp q (map pair_of es) ≡ cond (is_from p q) (find path_cmp q (map pair_of es)) None
  found_after [] p q c = none_either (is_from p q)
  found_after (e ∷ es) p q c =
      either_lower (eq_by_cmp path_cmp q (path_of e)) (is_from p q) (Some e.value) (find path_cmp q (map pair_of es))
      (λ t. ap (is_from p) (tied q (path_of e) t) ∙ ap not (c.following 0 e (omega arith) (omega arith)))
      (found_after es p q (next_after p e es c))

  found_from : (es : List (Entry V)) (p q : Path) (i : ℕ) → IsCut p es i → find path_cmp q (map pair_of (drop i es)) ≡ cond (is_from p q) (find path_cmp q (map pair_of es)) None
  found_from [] p q zero c = none_either (is_from p q)
  found_from [] p q (suc i) c = none_either (is_from p q)
  found_from (e ∷ es) p q zero c = found_after (e ∷ es) p q c
  found_from (e ∷ es) p q (suc i) c =
      found_from es p q i (next_before p e es i c)
      ∙ either_found (eq_by_cmp path_cmp q (path_of e)) (is_from p q) (Some e.value) (find path_cmp q (map pair_of es))
      (λ t. ap (is_from p) (tied q (path_of e) t) ∙ ap not (c.before 0 e (omega arith) (omega arith)))

  drop_in_order : (es : List (Entry V)) (i : ℕ) → IsInOrder es → IsInOrder (drop i es)
  drop_in_order [] zero h = h
  drop_in_order [] (suc i) h = h
  drop_in_order (e ∷ es) zero h = h
  drop_in_order (e ∷ es) (suc i) h = drop_in_order es i (rest_in_order e es h)

  -- the entries from a cut on are those of the map's part
  pub part_is : (es : List (Entry V)) → IsInOrder es → (p : Path) (i : ℕ) → IsCut p es i → map pair_of (drop i es) ≡ entries (part_from p (from_sorted (map pair_of es)))
  part_is es h p i c =
      let sorted = drop_in_order es i h in
      sym (entries-from_sorted path_cmp (map pair_of (drop i es)) sorted)
      ∙ ap entries (same_map path_cmp_total path_cmp-IsAntisymmetric (from_sorted (map pair_of (drop i es))) (part_from p (from_sorted (map pair_of es))) (λ q.
      get-from_sorted path_cmp (map pair_of (drop i es)) q sorted
      ∙ found_from es p q i c
      ∙ ap (λ o. cond (is_from p q) o None) (sym (get-from_sorted path_cmp (map pair_of es) q h))
      ∙ sym (get-retain_keys (from_sorted (map pair_of es)) (is_from p) q (λ x e. ap (is_from p) (sym (path_cmp-IsAntisymmetric q x e))))))
