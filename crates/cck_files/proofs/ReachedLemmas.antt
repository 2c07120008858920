-- What is reached from a directory, by look-ups in the map.
use Rattle.std.proofs.Common.{◌≡◌, List, [], ◌∷◌, ◌++◌, Bool, true, false, ◌&&◌, cond, Option, Some, None, refl, sym, ◌∙◌, ap, subst}
use Rattle.std.specs.Prelude.{filter_map, T}
use Rattle.std.specs.List.{cons_option}
use Rattle.std.specs.declared.cmp.Ordering.TheVariants.{Less, Equal, Greater}
use Rattle.std.specs.Ordering.{eq_by_cmp, is_eq, is_lt, ordering_then}
use Rattle.std.proofs.lemmas.Cmp.{tied_itself}
use Rattle.std.specs.FinMap.{get, entries, find, is_sorted, get-entries, entries_sorted, from_sorted, entries-from_sorted, get-from_sorted, same_map}
use Rattle.std.specs.Cmp.{Equal-is}
use Rattle.std.proofs.lemmas.Option.{none-some}
use Rattle.cck_path.specs.Path.{Path, Component, component_cmp, component_cmp_total, component_cmp-IsAntisymmetric, path_cmp, path_cmp_total, path_cmp-IsAntisymmetric}
use Rattle.cck_files.specs.FileMap.{FileNode, Nodes}
use Rattle.cck_path.proofs.TestLemmas.{T_and, T_parts, tied, below_all}
use Rattle.cck_files.specs.FolderText.{following, is_reached, if_reached, reached}

module _ (k : Path) (v : FileNode) (e : Path × FileNode) (es : List (Path × FileNode)) where
  abbrev pub Two : Type 0
  Two = T (is_sorted path_cmp ((k, v) ∷ e ∷ es))

  pub lt_of : Two → T (is_lt (path_cmp k e.0))
  lt_of h = (T_parts (is_lt (path_cmp k e.0)) (below_all k es) (T_parts (is_lt (path_cmp k e.0) && below_all k es) (is_sorted path_cmp (e ∷ es)) h).0).0

  pub tail_of : Two → T (is_sorted path_cmp (e ∷ es))
  tail_of h = (T_parts (is_lt (path_cmp k e.0) && below_all k es) (is_sorted path_cmp (e ∷ es)) h).1

  pub skip : Two → T (is_sorted path_cmp ((k, v) ∷ es))
  skip h = T_and (below_all k es) (is_sorted path_cmp es)
      (T_parts (is_lt (path_cmp k e.0)) (below_all k es) (T_parts (is_lt (path_cmp k e.0) && below_all k es) (is_sorted path_cmp (e ∷ es)) h).0).1
      (T_parts (below_all e.0 es) (is_sorted path_cmp es) (tail_of h)).1

  pub join : T (is_lt (path_cmp k e.0)) → T (is_sorted path_cmp ((k, v) ∷ es)) → T (is_sorted path_cmp (e ∷ es)) → Two
  join l h t = T_and (is_lt (path_cmp k e.0) && below_all k es) (is_sorted path_cmp (e ∷ es))
      (T_and (is_lt (path_cmp k e.0)) (below_all k es) l (T_parts (below_all k es) (is_sorted path_cmp es) h).0) t

pub sorted_tail : (e : Path × FileNode) (es : List (Path × FileNode)) → T (is_sorted path_cmp (e ∷ es)) → T (is_sorted path_cmp es)
sorted_tail e es h = (T_parts (below_all e.0 es) (is_sorted path_cmp es) h).1

pub component_itself : (c : Component) → component_cmp c c ≡ Equal
component_itself c = tied_itself component_cmp_total c

-- a common beginning does not change the order
pub path_cmp-append : (f a b : Path) → path_cmp (f ++ a) (f ++ b) ≡ path_cmp a b
path_cmp-append [] a b = refl
path_cmp-append (c ∷ f) a b = ap (λ o. ordering_then o (path_cmp (f ++ a) (f ++ b))) (component_itself c) ∙ path_cmp-append f a b

pub same_component : (c d : Component) → eq_by_cmp component_cmp c d ≡ true → c ≡ d
same_component c d e = component_cmp-IsAntisymmetric c d ((Equal-is (component_cmp c d)).0 e)

pub following-append : (f a : Path) → following f (f ++ a) ≡ Some a
following-append [] a = refl
following-append (c ∷ f) a = ap (λ o. cond (is_eq o) (following f (f ++ a)) None) (component_itself c) ∙ following-append f a

pub after_some : (f q r : Path) → following f q ≡ Some r → q ≡ f ++ r
after_some [] q r e = cc
after_some (c ∷ f) [] r e = cc
after_some (c ∷ f) (d ∷ q) r e = elim (eq_by_cmp component_cmp c d) as (λ b. eq_by_cmp component_cmp c d ≡ b → cond b (following f q) None ≡ Some r → d ∷ q ≡ c ∷ (f ++ r)) [
  | true ↦ λ p e. let h = after_some f q r e in let k = same_component c d p in cc
  | false ↦ λ p e. cc
] refl e

-- a path that does not begin with f is not equal to one that does
after_none : (f a q : Path) → following f q ≡ None → eq_by_cmp path_cmp (f ++ a) q ≡ false
after_none f a q e = elim (path_cmp (f ++ a) q) as (λ o. path_cmp (f ++ a) q ≡ o → is_eq o ≡ false) [
  | Less ↦ λ p. refl
  | Equal ↦ λ p. let k = path_cmp-IsAntisymmetric (f ++ a) q p in let h = following-append f a in absurd (none-some _ (sym e ∙ ap (following f) (sym k) ∙ h))
  | Greater ↦ λ p. refl
] refl

-- two sorted lists with the same look-ups are equal
pub same_sorted : (es fs : List (Path × FileNode)) → T (is_sorted path_cmp es) → T (is_sorted path_cmp fs)
    → ((q : Path) → find path_cmp q es ≡ find path_cmp q fs) → es ≡ fs
same_sorted es fs h k is =
    let same : from_sorted {R = path_cmp} es ≡ from_sorted {R = path_cmp} fs =
    same_map path_cmp_total path_cmp-IsAntisymmetric _ _ (λ q. get-from_sorted path_cmp es q h ∙ is q ∙ sym (get-from_sorted path_cmp fs q k)) in
    sym (entries-from_sorted path_cmp es h) ∙ ap entries same ∙ entries-from_sorted path_cmp fs k

find_optional : (rr : Bool) (r a : Path) (n : FileNode) (xs : List (Path × FileNode))
    → find path_cmp a (cons_option (cond rr (Some (r, n)) None) xs) ≡ cond rr (cond (eq_by_cmp path_cmp a r) (Some n) (find path_cmp a xs)) (find path_cmp a xs)
find_optional true r a n xs = refl
find_optional false r a n xs = refl

picked : (ra rr t : Bool) (x y : Option FileNode) (n : FileNode) → (t ≡ true → ra ≡ rr) → x ≡ cond ra y None
    → cond rr (cond t (Some n) x) x ≡ cond ra (cond t (Some n) y) None
picked ra true true x y n s h = sym (ap (λ b. cond b (Some n) None) (s refl))
picked ra false true x y n s h = h ∙ ap (λ b. cond b y None) (s refl) ∙ sym (ap (λ b. cond b (Some n) None) (s refl))
picked ra true false x y n s h = h
picked ra false false x y n s h = h

pub none_either_way : (b : Bool) → ◌≡◌ {A = Option FileNode} None (cond b None None)
none_either_way true = refl
none_either_way false = refl

module _ (m : Nodes) (f : Path) where
  abbrev pub below : List (Path × FileNode) → List (Path × FileNode)
  below es = filter_map (λ e. if_reached m f e.1 (following f e.0)) es

  find-step : (q : Path) (n : FileNode) (es : List (Path × FileNode)) (a : Path) (o : Option Path) → following f q ≡ o
      → find path_cmp a (below es) ≡ cond (is_reached m f a) (find path_cmp (f ++ a) es) None
      → find path_cmp a (cons_option (if_reached m f n o) (below es)) ≡ cond (is_reached m f a) (cond (eq_by_cmp path_cmp (f ++ a) q) (Some n) (find path_cmp (f ++ a) es)) None
  find-step q n es a None b h = h ∙ ap (λ t. cond (is_reached m f a) (cond t (Some n) (find path_cmp (f ++ a) es)) None) (sym (after_none f a q b))
  find-step q n es a (Some r) b h =
      let same : eq_by_cmp path_cmp (f ++ a) q ≡ eq_by_cmp path_cmp a r = ap (λ z. eq_by_cmp path_cmp (f ++ a) z) (after_some f q r b) ∙ ap is_eq (path_cmp-append f a r) in
      find_optional (is_reached m f r) r a n (below es)
      ∙ picked (is_reached m f a) (is_reached m f r) (eq_by_cmp path_cmp a r) _ (find path_cmp (f ++ a) es) n (λ t. ap (is_reached m f) (tied a r t)) h
      ∙ ap (λ t. cond (is_reached m f a) (cond t (Some n) (find path_cmp (f ++ a) es)) None) (sym same)

  -- a look-up in what is reached, by a look-up in the map
  pub find-below : (es : List (Path × FileNode)) (a : Path)
      → find path_cmp a (below es) ≡ cond (is_reached m f a) (find path_cmp (f ++ a) es) None
  find-below [] a = none_either_way (is_reached m f a)
  find-below (e ∷ es) a = find-step e.0 e.1 es a (following f e.0) refl (find-below es a)

  is_lt_after : (r q : Path) (s : Path) → q ≡ f ++ s → T (is_lt (path_cmp (f ++ r) q)) → T (is_lt (path_cmp r s))
  is_lt_after r q s e h = subst (λ o. T (is_lt o)) (ap (path_cmp (f ++ r)) e ∙ path_cmp-append f r s) h

  sorted-step : (r : Path) (v : FileNode) (q : Path) (n : FileNode) (es : List (Path × FileNode)) (o : Option Path) → following f q ≡ o
      → T (is_sorted path_cmp ((f ++ r, v) ∷ (q, n) ∷ es))
      → ((r : Path) (v : FileNode) → T (is_sorted path_cmp ((f ++ r, v) ∷ es)) → T (is_sorted path_cmp ((r, v) ∷ below es)))
      → T (is_sorted path_cmp ((r, v) ∷ cons_option (if_reached m f n o) (below es)))
  sorted-step r v q n es None b h ih = ih r v (skip (f ++ r) v (q, n) es h)
  sorted-step r v q n es (Some s) b h ih =
      let whole : T (is_sorted path_cmp ((r, v) ∷ below es)) = ih r v (skip (f ++ r) v (q, n) es h) in
      let there : q ≡ f ++ s = after_some f q s b in
      let more : T (is_sorted path_cmp ((f ++ s, n) ∷ es)) = subst (λ z. T (is_sorted path_cmp ((z, n) ∷ es))) there (tail_of (f ++ r) v (q, n) es h) in
      elim (is_reached m f s) as (λ t. T (is_sorted path_cmp ((r, v) ∷ cons_option (cond t (Some (s, n)) None) (below es)))) [
        | true ↦ join r v (s, n) (below es) (is_lt_after r q s there (lt_of (f ++ r) v (q, n) es h)) whole (ih s n more)
        | false ↦ whole
      ]

  sorted-below : (es : List (Path × FileNode)) (r : Path) (v : FileNode) → T (is_sorted path_cmp ((f ++ r, v) ∷ es)) → T (is_sorted path_cmp ((r, v) ∷ below es))
  sorted-below [] r v h = tt
  sorted-below (e ∷ es) r v h = sorted-step r v e.0 e.1 es (following f e.0) refl h (sorted-below es)

  front-step : (v : FileNode) (q : Path) (n : FileNode) (es : List (Path × FileNode)) (o : Option Path) → following f q ≡ o
      → T (is_sorted path_cmp ((q, n) ∷ es)) → T (is_sorted path_cmp (([], v) ∷ below es)) → T (is_sorted path_cmp (([], v) ∷ cons_option (if_reached m f n o) (below es)))
  front-step v q n es None b h whole = whole
  front-step v q n es (Some []) b h whole = whole
  front-step v q n es (Some (c ∷ s)) b h whole =
      let more : T (is_sorted path_cmp ((f ++ c ∷ s, n) ∷ es)) = subst (λ z. T (is_sorted path_cmp ((z, n) ∷ es))) (after_some f q (c ∷ s) b) h in
      elim (is_reached m f (c ∷ s)) as (λ t. T (is_sorted path_cmp (([], v) ∷ cons_option (cond t (Some (c ∷ s, n)) None) (below es)))) [
        | true ↦ join [] v (c ∷ s, n) (below es) tt whole (sorted-below es (c ∷ s) n more)
        | false ↦ whole
      ]

  pub sorted-front : (v : FileNode) (es : List (Path × FileNode)) → T (is_sorted path_cmp es) → T (is_sorted path_cmp (([], v) ∷ below es))
  sorted-front v [] h = tt
  sorted-front v (e ∷ es) h = front-step v e.0 e.1 es (following f e.0) refl h (sorted-front v es (sorted_tail e es h))

-- the node of the map at a path that is reached
abbrev pub found : Nodes → Path → Path → Option FileNode
found m f a = cond (is_reached m f a) (get m (f ++ a)) None

pub find-reached : (m : Nodes) (f a : Path) → find path_cmp a (reached m f) ≡ found m f a
unfolding reached
find-reached m f a = find-below m f (entries m) a ∙ ap (λ o. cond (is_reached m f a) o None) (sym (get-entries m (f ++ a)))

pub reached_sorted : (m : Nodes) (f : Path) (v : FileNode) → T (is_sorted path_cmp (([], v) ∷ reached m f))
unfolding reached
reached_sorted m f v = sorted-front m f v (entries m) (entries_sorted m)
