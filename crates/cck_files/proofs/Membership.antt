-- What is reached, as membership in a list.
use Rattle.std.proofs.Common.{◌≡◌, ◌≢◌, ℕ, zero, suc, ◌<◌, List, [], ◌∷◌, ◌++◌, length, get_or, Bool, true, false, ◌&&◌, cond, Option, Some, None, refl, sym, ◌∙◌, ap, subst, append_assoc, arith}
use Rattle.std.specs.Prelude.{◌↔◌, T, Contains}
use Rattle.std.specs.declared.cmp.Ordering.{Ordering}
use Rattle.std.specs.declared.cmp.Ordering.TheVariants.{Less, Equal, Greater}
use Rattle.std.specs.Ordering.{eq_by_cmp, is_eq, is_lt, ordering_reverse}
use Rattle.std.specs.FinMap.{get, find, is_sorted}
use Rattle.std.proofs.lemmas.Cmp.{tied_itself}
use Rattle.cck_path.specs.Path.{Path, Component, path_cmp, path_cmp_total}
use Rattle.cck_path.specs.declared.metadata.FileKind.TheVariants.{File}
use Rattle.cck_files.specs.FileMap.{FileNode, Nodes}
use Rattle.cck_path.proofs.TestLemmas.{T_parts, below_all, tied, true_from_T}
use Rattle.cck_files.specs.FolderText.{is_folder, is_name, is_reached, reached}
use Rattle.cck_files.specs.Laws.{LeadsThrough}
use Rattle.cck_files.proofs.ReachedLemmas.{find-reached, reached_sorted}

-- ---- membership in a sorted list

-- a key below all others is below each of them
below_each : (x : Path) (es : List (Path × FileNode)) (k : ℕ) (d : Path × FileNode) → T (below_all x es) → k < length es → T (is_lt (path_cmp x (get_or es k d).0))
below_each x [] k d h l = absurd (omega arith)
below_each x (e ∷ es) zero d h l = (T_parts (is_lt (path_cmp x e.0)) (below_all x es) h).0
below_each x (e ∷ es) (suc k) d h l = below_each x es k d (T_parts (is_lt (path_cmp x e.0)) (below_all x es) h).1 (omega arith)

above_differs : (x q : Path) → T (is_lt (path_cmp x q)) → eq_by_cmp path_cmp q x ≡ false
above_differs x q h = ap is_eq (path_cmp_total.antisymm q x) ∙ by (path_cmp x q) h
  where
    by : (o : Ordering) → T (is_lt o) → is_eq (ordering_reverse o) ≡ false
    by Less h = refl
    by Equal h = absurd h
    by Greater h = absurd h

find_at : (es : List (Path × FileNode)) (q : Path) (n : FileNode) (k : ℕ) → T (is_sorted path_cmp es) → k < length es → get_or es k (q, n) ≡ (q, n) → find path_cmp q es ≡ Some n
find_at [] q n k sorted l e = absurd (omega arith)
find_at (x ∷ es) q n zero sorted l e =
    ap (λ o. cond (is_eq o) (Some x.1) (find path_cmp q es)) (ap (λ y. path_cmp q y.0) e ∙ tied_itself path_cmp_total q) ∙ ap (λ y. Some y.1) e
find_at (x ∷ es) q n (suc k) sorted l e =
    let low : T (is_lt (path_cmp x.0 q)) = subst (λ y. T (is_lt (path_cmp x.0 y.0))) e (below_each x.0 es k (q, n) (T_parts (below_all x.0 es) (is_sorted path_cmp es) sorted).0 (omega arith)) in
    ap (λ b. cond b (Some x.1) (find path_cmp q es)) (above_differs x.0 q low)
    ∙ find_at es q n k (T_parts (below_all x.0 es) (is_sorted path_cmp es) sorted).1 (omega arith) e

contained : (es : List (Path × FileNode)) (q : Path) (n : FileNode) → find path_cmp q es ≡ Some n → Contains es (q, n)
contained [] q n e = cc
contained (x ∷ es) q n e = by (eq_by_cmp path_cmp q x.0) refl e (contained es q n)
  where
    by : (b : Bool) → eq_by_cmp path_cmp q x.0 ≡ b → cond b (Some x.1) (find path_cmp q es) ≡ Some n → (find path_cmp q es ≡ Some n → Contains es (q, n)) → Contains (x ∷ es) (q, n)
    by true t e later = let same : q ≡ x.0 = tied q x.0 t in let value : x.1 ≡ n = cc in (0, omega arith, λ i. (sym same i, value i))
    by false t e later = let (k, l, is) = later e in (suc k, omega (arith, l), is)

-- ---- through directories

not_nil : (c : Component) (q : Path) → c ∷ q ≢ []
not_nil c q e = cc

module _ (m : Nodes) where
  leads_on : (f : Path) (c : Component) (rest : Path) → is_reached m f (c ∷ rest) ≡ true → LeadsThrough m f (c ∷ rest)
  leads_on f c [] e = record {
    some = not_nil c [];
    names = (by (is_name c) e, tt);
    folders = λ a b some more is. absurd (short a b some more is);
  }
    where
      by : (b : Bool) → (b && true) ≡ true → b ≡ true
      by true e = refl
      by false e = cc

      short : (a b : Path) → a ≢ [] → b ≢ [] → c ∷ [] ≡ a ++ b → ⊥
      short [] b some more is = some refl
      short (x ∷ []) b some more is = let none : [] ≡ b = cc in more (sym none)
      short (x ∷ y ∷ a) b some more is = cc
  leads_on f c (d ∷ rest) e =
      let h = three (is_name c) (is_folder (get m (f ++ c ∷ []))) (is_reached m (f ++ c ∷ []) (d ∷ rest)) e in
      let later = leads_on (f ++ c ∷ []) d rest h.1.1 in
      record {
        some = not_nil c (d ∷ rest);
        names = (h.0, later.names);
        folders = λ a b some more is. by h.1.0 later a b some more is;
      }
    where
      three : (x y z : Bool) → (x && (y && z)) ≡ true → (x ≡ true) × ((y ≡ true) × (z ≡ true))
      three true true z e = (refl, (refl, e))
      three true false z e = cc
      three false y z e = cc

      by : is_folder (get m (f ++ c ∷ [])) ≡ true → LeadsThrough m (f ++ c ∷ []) (d ∷ rest) → (a b : Path) → a ≢ [] → b ≢ [] → c ∷ d ∷ rest ≡ a ++ b → is_folder (get m (f ++ a)) ≡ true
      by here later [] b some more is = absurd (some refl)
      by here later (x ∷ []) b some more is = let same : c ≡ x = cc in ap (λ z. is_folder (get m (f ++ z ∷ []))) (sym same) ∙ here
      by here later (x ∷ y ∷ a) b some more is =
          let same : c ≡ x = cc in
          let rest_is : d ∷ rest ≡ (y ∷ a) ++ b = cc in
          ap (λ z. is_folder (get m z)) (ap (λ z. f ++ z ∷ y ∷ a) (sym same) ∙ sym (append_assoc f (c ∷ []) (y ∷ a))) ∙ later.folders (y ∷ a) b (not_nil y a) more rest_is

  led : (f : Path) (c : Component) (rest : Path) → LeadsThrough m f (c ∷ rest) → is_reached m f (c ∷ rest) ≡ true
  led f c [] h = ap (λ b. b && true) h.names.0
  led f c (d ∷ rest) h =
      ap (λ b. b && (is_folder (get m (f ++ c ∷ [])) && is_reached m (f ++ c ∷ []) (d ∷ rest))) h.names.0
      ∙ (ap (λ b. b && is_reached m (f ++ c ∷ []) (d ∷ rest)) (h.folders (c ∷ []) (d ∷ rest) (not_nil c []) (not_nil d rest) refl)
      ∙ led (f ++ c ∷ []) d rest record {
        some = not_nil d rest;
        names = h.names.1;
        folders = λ a b some more is. ap (λ z. is_folder (get m z)) (append_assoc f (c ∷ []) a) ∙ h.folders (c ∷ a) b (not_nil c a) more (ap (λ z. c ∷ z) is);
      })

  pub leads : (f q : Path) → is_reached m f q ≡ true → LeadsThrough m f q
  leads f [] e = cc
  leads f (c ∷ rest) e = leads_on f c rest e

  pub led_to : (f q : Path) → LeadsThrough m f q → is_reached m f q ≡ true
  led_to f [] h = absurd (h.some refl)
  led_to f (c ∷ rest) h = led f c rest h

sorted : (m : Nodes) (f : Path) → T (is_sorted path_cmp (reached m f))
sorted m f = (T_parts (below_all [] (reached m f)) (is_sorted path_cmp (reached m f)) (reached_sorted m f any_node)).1
  where
    any_node : FileNode
    any_node = record { kind = File; contents = []; modified = None; changed = None }

pub reached_is_sorted : (m : Nodes) (f : Path) → (is_sorted path_cmp (reached m f) ≡ true)
    × ((q : Path) (node : FileNode) → Contains (reached m f) (q, node) ↔ ((get m (f ++ q) ≡ Some node) × LeadsThrough m f q))
reached_is_sorted m f = (true_from_T _ (sorted m f), λ q node. (there q node, back q node))
  where
    both_of : (b : Bool) (o : Option FileNode) (node : FileNode) → cond b o None ≡ Some node → (o ≡ Some node) × (b ≡ true)
    both_of true o node e = (e, refl)
    both_of false o node e = cc

    there : (q : Path) (node : FileNode) → Contains (reached m f) (q, node) → (get m (f ++ q) ≡ Some node) × LeadsThrough m f q
    there q node (k, l, is) =
        let (at, through) = both_of (is_reached m f q) (get m (f ++ q)) node (sym (find-reached m f q) ∙ find_at (reached m f) q node k (sorted m f) l is) in
        (at, leads m f q through)

    back : (q : Path) (node : FileNode) → (get m (f ++ q) ≡ Some node) × LeadsThrough m f q → Contains (reached m f) (q, node)
    back q node (at, through) = contained (reached m f) q node (find-reached m f q ∙ (ap (λ b. cond b (get m (f ++ q)) None) (led_to m f q through) ∙ at))
