-- The entries of a finite map by paths, as a list.
use Rattle.std.proofs.Common.{◌≡◌, inl, inr, zero, suc, ◌<◌, List, [], ◌∷◌, length, map, get_or, Bool, true, false, cond, T, Some, Less, refl, sym, ap, subst, ◌∙◌, arith}
use Rattle.std.proofs.lemmas.Cmp.{tied_itself}
use Rattle.std.proofs.lemmas.List.{get_or_default}
use Rattle.std.specs.FinMap.{FinMap, entries, entries_sorted, find, get, get-entries, is_sorted}
use Rattle.std.specs.FinMap.Entries.{below_all}
use Rattle.std.specs.List.{AllPairs}
use Rattle.std.specs.Ordering.{eq_by_cmp, is_eq, is_lt, ordering_reverse}
use Rattle.std.specs.Prelude.{Contains}
use Rattle.std.proofs.lemmas.Option.{same_Some, none-some}
use Rattle.cck_path.specs.Path.{Path, path_cmp, path_cmp_total}
use Rattle.cck_path.proofs.TestLemmas.{less_from_T, T_parts, tied}
use Rattle.cck_hasher.proofs.Elements.{first_in, later_in, none_in, one_of}

pub path_itself : (p : Path) → eq_by_cmp path_cmp p p ≡ true
path_itself p = ap is_eq (tied_itself path_cmp_total p)

higher : (p q : Path) → path_cmp p q ≡ Less → eq_by_cmp path_cmp q p ≡ false
higher p q h = ap is_eq (path_cmp_total.antisymm q p ∙ ap ordering_reverse h)

module _ {X : Type 0} where
  found_or_later : (p : Path) (x : X) (e : Path × X) (es : List (Path × X)) (b : Bool) → eq_by_cmp path_cmp p e.0 ≡ b
      → (find path_cmp p es ≡ Some x → Contains es (p, x)) → cond b (Some e.1) (find path_cmp p es) ≡ Some x → Contains (e ∷ es) (p, x)
  found_or_later p x e es true is rest h =
      let path : e.0 ≡ p = sym (tied p e.0 is) in
      let value : e.1 ≡ x = same_Some e.1 x h in
      subst (λ f. Contains (e ∷ es) f) (λ i. (path i, value i)) (first_in e es)
  found_or_later p x e es false is rest h = later_in e (p, x) es (rest h)

  found_exists : (p : Path) (x : X) (es : List (Path × X)) → find path_cmp p es ≡ Some x → Contains es (p, x)
  found_exists p x [] h = absurd (none-some _ h)
  found_exists p x (e ∷ es) h = found_or_later p x e es (eq_by_cmp path_cmp p e.0) refl (found_exists p x es) h

  -- a path with a value is among the entries
  pub entry_of : (m : FinMap path_cmp X) (p : Path) (x : X) → get m p ≡ Some x → Contains (entries m) (p, x)
  entry_of m p x h = found_exists p x (entries m) (sym (get-entries m p) ∙ h)

  below : (p : Path) (es : List (Path × X)) → T (below_all path_cmp p es) → (e : Path × X) → Contains es e → path_cmp p e.0 ≡ Less
  below p [] h e at = absurd (none_in e at)
  below p (f ∷ es) h e at =
      elim (one_of f e es at) [
        | inl is ↦ ap (λ (g : Path × X). path_cmp p g.0) (sym is) ∙ less_from_T (path_cmp p f.0) (T_parts (is_lt (path_cmp p f.0)) (below_all path_cmp p es) h).0
        | inr more ↦ below p es (T_parts (is_lt (path_cmp p f.0)) (below_all path_cmp p es) h).1 e more
      ]

  exists_found : (e : Path × X) (es : List (Path × X)) → T (is_sorted path_cmp es) → Contains es e → find path_cmp e.0 es ≡ Some e.1
  exists_found e [] h at = absurd (none_in e at)
  exists_found e (f ∷ es) h at =
      elim (one_of f e es at) [
        | inl is ↦ (let own : f ≡ e = is in subst (λ (g : Path × X). find path_cmp g.0 (f ∷ es) ≡ Some g.1) own (ap (λ b. cond b (Some f.1) (find path_cmp f.0 es)) (path_itself f.0)))
        | inr more ↦
            ap (λ b. cond b (Some f.1) (find path_cmp e.0 es)) (higher f.0 e.0 (below f.0 es (T_parts (below_all path_cmp f.0 es) (is_sorted path_cmp es) h).0 e more))
            ∙ exists_found e es (T_parts (below_all path_cmp f.0 es) (is_sorted path_cmp es) h).1 more
      ]

  -- an entry's path has its value
  pub of_entry : (m : FinMap path_cmp X) (e : Path × X) → Contains (entries m) e → get m e.0 ≡ Some e.1
  of_entry m e at = get-entries m e.0 ∙ exists_found e (entries m) (entries_sorted m) at

  -- each element of the resulting list comes from an entry
  pub made_from : {Y : Type 0} (f : Path × X → Y) (es : List (Path × X)) (y : Y) → Contains (map f es) y → (e : Path × X) × Contains es e × (f e ≡ y)
  made_from f [] y at = absurd (none_in y at)
  made_from f (e ∷ es) y at =
      elim (one_of (f e) y (map f es) at) [
        | inl is ↦ (e, first_in e es, is)
        | inr more ↦ (let r = made_from f es y more in (r.0, later_in e r.0 es r.1, r.2))
      ]

  -- each entry has its element in the resulting list
  pub made_of : {Y : Type 0} (f : Path × X → Y) (es : List (Path × X)) (e : Path × X) → Contains es e → Contains (map f es) (f e)
  made_of f [] e at = absurd (none_in e at)
  made_of f (d ∷ es) e at =
      elim (one_of d e es at) [
        | inl is ↦ subst (λ (g : Path × X). Contains (map f (d ∷ es)) (f g)) is (first_in (f d) (map f es))
        | inr more ↦ later_in (f d) (f e) (map f es) (made_of f es e more)
      ]

  -- and if the elements have the paths of their entries, they are in the order of these
  pub made_in_order : {Y : Type 0} (f : Path × X → Y) (path : Y → Path) (es : List (Path × X)) → ((e : Path × X) → Contains es e → path (f e) ≡ e.0)
      → T (is_sorted path_cmp es) → AllPairs (λ y z. path_cmp (path y) (path z) ≡ Less) (map f es)
  made_in_order f path [] claim h i j d lt range = absurd (omega (arith, range))
  made_in_order f path (e ∷ es) claim h i zero d lt range = absurd (omega (arith, lt))
  made_in_order f path (e ∷ es) claim h zero (suc j) d lt range =
      let low : j < length (map f es) = omega (arith, range) in
      let y = get_or (map f es) j d in
      let r = made_from f es y (j, low, get_or_default (map f es) j y d low) in
      ap (λ p. path_cmp p (path y)) (claim e (first_in e es))
      ∙ ap (path_cmp e.0) (ap path (sym r.2) ∙ claim r.0 (later_in e r.0 es r.1))
      ∙ below e.0 es (T_parts (below_all path_cmp e.0 es) (is_sorted path_cmp es) h).0 r.0 r.1
  made_in_order f path (e ∷ es) claim h (suc i) (suc j) d lt range =
      made_in_order f path es (λ g at. claim g (later_in e g es at)) (T_parts (below_all path_cmp e.0 es) (is_sorted path_cmp es) h).1 i j d (omega (arith, lt)) (omega (arith, range))
