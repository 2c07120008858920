-- What is reached from a directory is its children, and what is reached from them.
use Rattle.std.proofs.Common.{◌≡◌, ℕ, List, [], ◌∷◌, ◌++◌, Bool, true, false, ◌&&◌, ◌||◌, cond, Option, Some, None, map, refl, sym, ◌∙◌, ap, subst, append_assoc, IsSome}
use Rattle.std.specs.Prelude.{flat_map, T}
use Rattle.std.specs.declared.cmp.Ordering.{Ordering}
use Rattle.std.specs.declared.cmp.Ordering.TheVariants.{Less, Equal, Greater}
use Rattle.std.specs.Ordering.{eq_by_cmp, is_eq, is_lt, ordering_then}
use Rattle.std.specs.FinMap.{get, find, is_sorted}
use Rattle.cck_path.specs.Path.{Path, Component, Root, Current, Parent, Name, component_cmp, component_cmp_total, path_cmp}
use Rattle.cck_files.specs.FileMap.{FileNode, Nodes}
use Rattle.cck_path.specs.declared.metadata.FileKind.TheVariants.{File}
use Rattle.cck_path.proofs.TestLemmas.{T_and, T_parts, less_from_T}
use Rattle.cck_files.specs.Folder.{rises, any_name}
use Rattle.cck_files.specs.FolderText.{is_folder_kind, is_folder, is_reached, reached}
use Rattle.cck_files.proofs.ReachedLemmas.{lt_of, tail_of, skip, join, sorted_tail, component_itself, same_component, none_either_way, same_sorted, found, find-reached, reached_sorted}

abbrev pub under : Component → Path × FileNode → Path × FileNode
under c e = (c ∷ e.0, e.1)

abbrev pub child_part : Nodes → Path → List ℕ → Option FileNode → List (Path × FileNode)
child_part m f n None = []
child_part m f n (Some node) = (Name n ∷ [], node) ∷ cond (is_folder_kind node.kind) (map (under (Name n)) (reached m (f ++ Name n ∷ []))) []

-- a child, and what is reached from it
abbrev pub child_nodes : Nodes → Path → List ℕ → List (Path × FileNode)
child_nodes m f n = child_part m f n (get m (f ++ Name n ∷ []))

abbrev or_else : Option FileNode → Option FileNode → Option FileNode
or_else None o = o
or_else (Some x) o = Some x

find-append2 : (q : Path) (xs ys : List (Path × FileNode)) → find path_cmp q (xs ++ ys) ≡ or_else (find path_cmp q xs) (find path_cmp q ys)
find-append2 q [] ys = refl
find-append2 q (x ∷ xs) ys = elim (eq_by_cmp path_cmp q x.0) as (λ b. cond b (Some x.1) (find path_cmp q (xs ++ ys)) ≡ or_else (cond b (Some x.1) (find path_cmp q xs)) (find path_cmp q ys)) [
  | true ↦ refl
  | false ↦ find-append2 q xs ys
]

find-under : (c d : Component) (a : Path) (xs : List (Path × FileNode))
    → find path_cmp (c ∷ a) (map (under d) xs) ≡ cond (eq_by_cmp component_cmp c d) (find path_cmp a xs) None
find-under c d a [] = elim (eq_by_cmp component_cmp c d) as (λ b. ◌≡◌ {A = Option FileNode} None (cond b None None)) [ true ↦ refl | false ↦ refl ]
find-under c d a (x ∷ xs) =
    ap (λ o. cond (eq_by_cmp path_cmp (c ∷ a) (d ∷ x.0)) (Some x.1) o) (find-under c d a xs)
    ∙ elim (component_cmp c d) as (λ o. cond (is_eq (ordering_then o (path_cmp a x.0))) (Some x.1) (cond (is_eq o) (find path_cmp a xs) None) ≡ cond (is_eq o) (cond (eq_by_cmp path_cmp a x.0) (Some x.1) (find path_cmp a xs)) None) [
      | Less ↦ refl
      | Equal ↦ refl
      | Greater ↦ refl
    ]

find-under_none : (d : Component) (xs : List (Path × FileNode)) → find path_cmp [] (map (under d) xs) ≡ None
find-under_none d [] = refl
find-under_none d (x ∷ xs) = find-under_none d xs

one_of : (h r : Bool) (o : Option FileNode) → or_else (cond h o None) (cond r o None) ≡ cond (h || r) o None
one_of true true None = refl
one_of true false None = refl
one_of true true (Some x) = refl
one_of true false (Some x) = refl
one_of false r o = refl

module _ (m : Nodes) (f : Path) where
  find-child_nil : (n : List ℕ) (o : Option FileNode) → find path_cmp [] (child_part m f n o) ≡ None
  find-child_nil n None = refl
  find-child_nil n (Some node) = elim (is_folder_kind node.kind) as (λ b. find path_cmp [] (cond b (map (under (Name n)) (reached m (f ++ Name n ∷ []))) []) ≡ None) [
    | true ↦ find-under_none (Name n) (reached m (f ++ Name n ∷ []))
    | false ↦ refl
  ]

  found_none : (n : List ℕ) (a : Path) → get m (f ++ Name n ∷ []) ≡ None → found m f (Name n ∷ a) ≡ None
  found_none n [] e = e
  found_none n (x ∷ a) e = ap (λ o. cond (is_folder o && is_reached m (f ++ Name n ∷ []) (x ∷ a)) (get m (f ++ Name n ∷ x ∷ a)) None) e

  folder_step : (n : List ℕ) (x : Component) (a : Path) (k : Bool)
      → find path_cmp (Name n ∷ x ∷ a) (cond k (map (under (Name n)) (reached m (f ++ Name n ∷ []))) []) ≡ cond (k && is_reached m (f ++ Name n ∷ []) (x ∷ a)) (get m (f ++ Name n ∷ x ∷ a)) None
  folder_step n x a true =
      find-under (Name n) (Name n) (x ∷ a) (reached m (f ++ Name n ∷ []))
      ∙ ap (λ o. cond (is_eq o) (find path_cmp (x ∷ a) (reached m (f ++ Name n ∷ []))) None) (component_itself (Name n))
      ∙ find-reached m (f ++ Name n ∷ []) (x ∷ a)
      ∙ ap (λ p. cond (is_reached m (f ++ Name n ∷ []) (x ∷ a)) (get m p) None) (append_assoc f (Name n ∷ []) (x ∷ a))
  folder_step n x a false = refl

  -- at the child itself
  find-child_self : (n : List ℕ) (a : Path) (o : Option FileNode) → get m (f ++ Name n ∷ []) ≡ o
      → find path_cmp (Name n ∷ a) (child_part m f n o) ≡ found m f (Name n ∷ a)
  find-child_self n a None e = sym (found_none n a e)
  find-child_self n [] (Some node) e =
      ap (λ o. cond (is_eq (ordering_then o Equal)) (Some node) (find path_cmp (Name n ∷ []) (cond (is_folder_kind node.kind) (map (under (Name n)) (reached m (f ++ Name n ∷ []))) []))) (component_itself (Name n)) ∙ sym e
  find-child_self n (x ∷ a) (Some node) e =
      ap (λ o. cond (is_eq (ordering_then o Greater)) (Some node) (find path_cmp (Name n ∷ x ∷ a) (cond (is_folder_kind node.kind) (map (under (Name n)) (reached m (f ++ Name n ∷ []))) []))) (component_itself (Name n))
      ∙ folder_step n x a (is_folder_kind node.kind)
      ∙ sym (ap (λ o. cond (is_folder o && is_reached m (f ++ Name n ∷ []) (x ∷ a)) (get m (f ++ Name n ∷ x ∷ a)) None) e)

  not_then : (o p : Ordering) → is_eq o ≡ false → is_eq (ordering_then o p) ≡ false
  not_then Less p e = refl
  not_then Equal p e = cc
  not_then Greater p e = refl

  find-child_other : (c : Component) (n : List ℕ) (a : Path) (o : Option FileNode) → eq_by_cmp component_cmp c (Name n) ≡ false
      → find path_cmp (c ∷ a) (child_part m f n o) ≡ None
  find-child_other c n a None e = refl
  find-child_other c n a (Some node) e =
      ap (λ b. cond b (Some node) (find path_cmp (c ∷ a) (cond (is_folder_kind node.kind) (map (under (Name n)) (reached m (f ++ Name n ∷ []))) []))) (not_then (component_cmp c (Name n)) (path_cmp a []) e)
      ∙ elim (is_folder_kind node.kind) as (λ k. find path_cmp (c ∷ a) (cond k (map (under (Name n)) (reached m (f ++ Name n ∷ []))) []) ≡ None) [
        | true ↦ find-under c (Name n) a (reached m (f ++ Name n ∷ [])) ∙ ap (λ b. cond b (find path_cmp a (reached m (f ++ Name n ∷ []))) None) e
        | false ↦ refl
      ]

  find-child : (c : Component) (n : List ℕ) (a : Path) (b : Bool) → eq_by_cmp component_cmp c (Name n) ≡ b
      → find path_cmp (c ∷ a) (child_nodes m f n) ≡ cond b (found m f (c ∷ a)) None
  find-child c n a true e =
      let is : c ≡ Name n = same_component c (Name n) e in
      subst (λ d. find path_cmp (d ∷ a) (child_nodes m f n) ≡ found m f (d ∷ a)) (sym is) (find-child_self n a (get m (f ++ Name n ∷ [])) refl)
  find-child c n a false e = find-child_other c n a (get m (f ++ Name n ∷ [])) e

  find-children : (ns : List (List ℕ)) (c : Component) (a : Path)
      → find path_cmp (c ∷ a) (flat_map (child_nodes m f) ns) ≡ cond (any_name c ns) (found m f (c ∷ a)) None
  find-children [] c a = refl
  find-children (n ∷ ns) c a =
      find-append2 (c ∷ a) (child_nodes m f n) (flat_map (child_nodes m f) ns)
      ∙ ap (λ o. or_else o (find path_cmp (c ∷ a) (flat_map (child_nodes m f) ns))) (find-child c n a (eq_by_cmp component_cmp c (Name n)) refl)
      ∙ ap (or_else (cond (eq_by_cmp component_cmp c (Name n)) (found m f (c ∷ a)) None)) (find-children ns c a)
      ∙ one_of (eq_by_cmp component_cmp c (Name n)) (any_name c ns) (found m f (c ∷ a))

  find-children_nil : (ns : List (List ℕ)) → find path_cmp [] (flat_map (child_nodes m f) ns) ≡ None
  find-children_nil [] = refl
  find-children_nil (n ∷ ns) = find-append2 [] (child_nodes m f n) (flat_map (child_nodes m f) ns)
      ∙ ap (λ o. or_else o (find path_cmp [] (flat_map (child_nodes m f) ns))) (find-child_nil n (get m (f ++ Name n ∷ [])))
      ∙ find-children_nil ns

  -- each child is among the names
  abbrev pub IsComplete : List (List ℕ) → Type 0
  IsComplete ns = (n : List ℕ) → IsSome (get m (f ++ Name n ∷ [])) → any_name (Name n) ns ≡ true

  named : (ns : List (List ℕ)) → IsComplete ns → (n : List ℕ) (a : Path) (o : Option FileNode) → get m (f ++ Name n ∷ []) ≡ o
      → cond (any_name (Name n) ns) (found m f (Name n ∷ a)) None ≡ found m f (Name n ∷ a)
  named ns all n a None e = let h = found_none n a e in elim (any_name (Name n) ns) as (λ b. cond b (found m f (Name n ∷ a)) None ≡ found m f (Name n ∷ a)) [ true ↦ refl | false ↦ sym h ]
  named ns all n a (Some node) e = ap (λ b. cond b (found m f (Name n ∷ a)) None) (all n (subst IsSome (sym e) refl))

  found_children : (ns : List (List ℕ)) → IsComplete ns → (q : Path) → find path_cmp q (reached m f) ≡ find path_cmp q (flat_map (child_nodes m f) ns)
  found_children ns all [] = find-reached m f [] ∙ sym (find-children_nil ns)
  found_children ns all (Root ∷ a) = find-reached m f (Root ∷ a) ∙ none_either_way (any_name Root ns) ∙ sym (find-children ns Root a)
  found_children ns all (Current ∷ a) = find-reached m f (Current ∷ a) ∙ none_either_way (any_name Current ns) ∙ sym (find-children ns Current a)
  found_children ns all (Parent ∷ a) = find-reached m f (Parent ∷ a) ∙ none_either_way (any_name Parent ns) ∙ sym (find-children ns Parent a)
  found_children ns all (Name n ∷ a) = find-reached m f (Name n ∷ a) ∙ sym (named ns all n a (get m (f ++ Name n ∷ [])) refl) ∙ sym (find-children ns (Name n) a)

-- ---- in order

abbrev head_above : Component → Path → Bool
head_above c [] = false
head_above c (d ∷ r) = is_lt (component_cmp c d)

abbrev heads_above : Component → List (Path × FileNode) → Bool
heads_above c [] = true
heads_above c (e ∷ es) = head_above c e.0 && heads_above c es

lt_trans : (b c d : Component) → T (is_lt (component_cmp b c)) → T (is_lt (component_cmp c d)) → T (is_lt (component_cmp b d))
lt_trans b c d h k = subst (λ o. T (is_lt o)) (sym (component_cmp_total.trans b c d (less_from_T _ h) (less_from_T _ k))) tt

head_above_more : (b c : Component) → T (is_lt (component_cmp b c)) → (q : Path) → T (head_above c q) → T (head_above b q)
head_above_more b c l [] h = absurd h
head_above_more b c l (d ∷ r) h = lt_trans b c d l h

heads_above_more : (b c : Component) → T (is_lt (component_cmp b c)) → (es : List (Path × FileNode)) → T (heads_above c es) → T (heads_above b es)
heads_above_more b c l [] h = tt
heads_above_more b c l (e ∷ es) h =
    T_and (head_above b e.0) (heads_above b es) (head_above_more b c l e.0 (T_parts (head_above c e.0) (heads_above c es) h).0) (heads_above_more b c l es (T_parts (head_above c e.0) (heads_above c es) h).1)

heads_above-under : (b c : Component) → T (is_lt (component_cmp b c)) → (es : List (Path × FileNode)) → T (heads_above b (map (under c) es))
heads_above-under b c l [] = tt
heads_above-under b c l (e ∷ es) = T_and (is_lt (component_cmp b c)) (heads_above b (map (under c) es)) l (heads_above-under b c l es)

heads_above-append : (b : Component) (xs ys : List (Path × FileNode)) → T (heads_above b xs) → T (heads_above b ys) → T (heads_above b (xs ++ ys))
heads_above-append b [] ys h k = k
heads_above-append b (x ∷ xs) ys h k = T_and (head_above b x.0) (heads_above b (xs ++ ys)) (T_parts (head_above b x.0) (heads_above b xs) h).0
    (heads_above-append b xs ys (T_parts (head_above b x.0) (heads_above b xs) h).1 k)

then_less : (c : Component) (r q : Path) → T (head_above c q) → T (is_lt (path_cmp (c ∷ r) q))
then_less c r [] h = absurd h
then_less c r (d ∷ q) h = subst (λ o. T (is_lt (ordering_then o (path_cmp r q)))) (sym (less_from_T _ h)) tt

-- a path with this first component comes before those with greater ones
sorted_before : (c : Component) (r : Path) (v : FileNode) (ys : List (Path × FileNode)) → T (heads_above c ys) → T (is_sorted path_cmp ys) → T (is_sorted path_cmp ((c ∷ r, v) ∷ ys))
sorted_before c r v [] h s = tt
sorted_before c r v (y ∷ ys) h s =
    join (c ∷ r) v y ys (then_less c r y.0 (T_parts (head_above c y.0) (heads_above c ys) h).0)
    (sorted_before c r v ys (T_parts (head_above c y.0) (heads_above c ys) h).1 (sorted_tail y ys s)) s

same_head : (c : Component) (r q : Path) → T (is_lt (path_cmp r q)) → T (is_lt (path_cmp (c ∷ r) (c ∷ q)))
same_head c r q h = subst (λ o. T (is_lt (ordering_then o (path_cmp r q)))) (sym (component_itself c)) h

sorted_group : (c : Component) (r : Path) (v : FileNode) (xs ys : List (Path × FileNode)) → T (is_sorted path_cmp ((r, v) ∷ xs)) → T (heads_above c ys) → T (is_sorted path_cmp ys)
    → T (is_sorted path_cmp ((c ∷ r, v) ∷ (map (under c) xs ++ ys)))
sorted_group c r v [] ys h above s = sorted_before c r v ys above s
sorted_group c r v (x ∷ xs) ys h above s =
    join (c ∷ r) v (under c x) (map (under c) xs ++ ys) (same_head c r x.0 (lt_of r v x xs h))
    (sorted_group c r v xs ys (skip r v x xs h) above s)
    (sorted_group c x.0 x.1 xs ys (tail_of r v x xs h) above s)

module _ (m : Nodes) (f : Path) where
  above_child : (b : Component) (n : List ℕ) → T (is_lt (component_cmp b (Name n))) → (o : Option FileNode) → T (heads_above b (child_part m f n o))
  above_child b n l None = tt
  above_child b n l (Some node) = T_and (is_lt (component_cmp b (Name n))) _ l (elim (is_folder_kind node.kind) as (λ k. T (heads_above b (cond k (map (under (Name n)) (reached m (f ++ Name n ∷ []))) []))) [
    | true ↦ heads_above-under b (Name n) l (reached m (f ++ Name n ∷ []))
    | false ↦ tt
  ])

  above_children : (n : List ℕ) (ns : List (List ℕ)) → T (rises (n ∷ ns)) → T (heads_above (Name n) (flat_map (child_nodes m f) ns))
  above_children n [] h = tt
  above_children n (x ∷ ns) h =
      let l = (T_parts (is_lt (component_cmp (Name n) (Name x))) (rises (x ∷ ns)) h).0 in
      heads_above-append (Name n) (child_nodes m f x) (flat_map (child_nodes m f) ns) (above_child (Name n) x l (get m (f ++ Name x ∷ [])))
      (heads_above_more (Name n) (Name x) l (flat_map (child_nodes m f) ns) (above_children x ns (T_parts (is_lt (component_cmp (Name n) (Name x))) (rises (x ∷ ns)) h).1))

  rises_rest : (n : List ℕ) (ns : List (List ℕ)) → T (rises (n ∷ ns)) → T (rises ns)
  rises_rest n [] h = tt
  rises_rest n (x ∷ ns) h = (T_parts (is_lt (component_cmp (Name n) (Name x))) (rises (x ∷ ns)) h).1

  sorted_with_child : (n : List ℕ) (o : Option FileNode) (ys : List (Path × FileNode)) → T (heads_above (Name n) ys) → T (is_sorted path_cmp ys) → T (is_sorted path_cmp (child_part m f n o ++ ys))
  sorted_with_child n None ys above s = s
  sorted_with_child n (Some node) ys above s = elim (is_folder_kind node.kind) as (λ k. T (is_sorted path_cmp ((Name n ∷ [], node) ∷ (cond k (map (under (Name n)) (reached m (f ++ Name n ∷ []))) [] ++ ys)))) [
    | true ↦ sorted_group (Name n) [] node (reached m (f ++ Name n ∷ [])) ys (reached_sorted m (f ++ Name n ∷ []) node) above s
    | false ↦ sorted_before (Name n) [] node ys above s
  ]

  sorted_children : (ns : List (List ℕ)) → T (rises ns) → T (is_sorted path_cmp (flat_map (child_nodes m f) ns))
  sorted_children [] h = tt
  sorted_children (n ∷ ns) h = sorted_with_child n (get m (f ++ Name n ∷ [])) (flat_map (child_nodes m f) ns) (above_children n ns h) (sorted_children ns (rises_rest n ns h))

-- What is reached from a directory is, for each child in order, the child and what is reached from it.
pub reached_children : (m : Nodes) (f : Path) (ns : List (List ℕ)) → T (rises ns) → IsComplete m f ns → reached m f ≡ flat_map (child_nodes m f) ns
reached_children m f ns up all = same_sorted (reached m f) (flat_map (child_nodes m f) ns) (T_parts _ _ (reached_sorted m f any_node)).1 (sorted_children m f ns up) (found_children m f ns all)
  where
    any_node : FileNode
    any_node = record { kind = File; contents = []; modified = None; changed = None }
