-- A directory's children are fed, one after another.
use Rattle.std.proofs.Common.{◌≡◌, ℕ, zero, suc, ◌+◌, ◌≤◌, ◌<◌, List, [], ◌∷◌, ◌++◌, length, Bool, true, false, ◌&&◌, ◌||◌, cond, refl, sym, ◌∙◌, ap, subst, append_assoc, arith, get_or, take, map, Option, Some, None}
use Rattle.std.specs.Prelude.{flat_map, T, nat_lt}
use Rattle.std.specs.List.{list_any}
use Rattle.std.specs.FinMap.{get}
use Rattle.std.proofs.lemmas.List.{take_more, append-nil, take_all}
use Rattle.std.proofs.lemmas.List.Concat.{flat_map-append}
use Rattle.std.proofs.lemmas.List.Folds.{list_any-append}
use Rattle.std.proofs.lemmas.Bool.{or_from, or_right, or_left}
use Rattle.cck_path.specs.Path.{Path, Name}
use Rattle.cck_files.specs.FileMap.{FileNode, Nodes}
use Rattle.cck_files.specs.Folder.{AreChildNames, IsFedNodes, child_name}
use Rattle.cck_files.specs.FolderText.{is_folder_kind, is_other, is_too_deep, name_below, piece, piece_of, nodes_material, reached, node_and_reached, whole_part}
use Rattle.cck_files.proofs.FolderChildLemmas.{child_nodes, child_part, under, reached_children}

-- ---- one part after another

module _ {S : Type 0} (holds : S → List ℕ → Type 0) (level : ℕ) (name : Option (List ℕ)) where
  pub fed_both : (xs ys : List (Path × FileNode)) (a b c : S) → IsFedNodes holds level name xs a b → IsFedNodes holds level name ys b c → IsFedNodes holds level name (xs ++ ys) a c
  fed_both xs ys a b c f g = record {
    none_other = list_any-append is_other xs ys ∙ or_from _ _ f.none_other g.none_other;
    none_too_deep = list_any-append (is_too_deep level) xs ys ∙ or_from _ _ f.none_too_deep g.none_too_deep;
    fed = λ fed h. subst (holds c)
        (append_assoc fed (nodes_material name xs) (nodes_material name ys) ∙ ap (λ z. fed ++ z) (sym (flat_map-append (piece name) xs ys)))
        (g.fed (fed ++ nodes_material name xs) (f.fed fed h));
  }

-- ---- under the name of a child

name_under : (name : Option (List ℕ)) (n : List ℕ) (q : Path) → name_below name (Name n ∷ q) ≡ name_below (Some (child_name name n)) q
name_under None n [] = refl
name_under None n (c ∷ q) = refl
name_under (Some t) n [] = refl
name_under (Some t) n (c ∷ q) = ap Some (sym (append_assoc t (47 ∷ n) (47 ∷ _)))

material_under : (name : Option (List ℕ)) (n : List ℕ) (xs : List (Path × FileNode)) → nodes_material name (map (under (Name n)) xs) ≡ nodes_material (Some (child_name name n)) xs
material_under name n [] = refl
material_under name n (x ∷ xs) =
    ap (λ o. piece_of x.1.kind o x.1.contents ++ nodes_material name (map (under (Name n)) xs)) (name_under name n x.0)
    ∙ ap (λ z. piece (Some (child_name name n)) x ++ z) (material_under name n xs)

other_under : (n : List ℕ) (xs : List (Path × FileNode)) → list_any is_other (map (under (Name n)) xs) ≡ list_any is_other xs
other_under n [] = refl
other_under n (x ∷ xs) = ap (λ b. is_other x || b) (other_under n xs)

deep_under : (level : ℕ) (n : List ℕ) (xs : List (Path × FileNode)) → list_any (is_too_deep level) (map (under (Name n)) xs) ≡ list_any (is_too_deep (level + 1)) xs
deep_under level n [] = refl
deep_under level n (x ∷ xs) =
    let same : level + suc (length x.0) ≡ (level + 1) + length x.0 = omega arith in
    ap (λ k. (is_folder_kind x.1.kind && nat_lt 100 k) || list_any (is_too_deep level) (map (under (Name n)) xs)) same
    ∙ ap (λ b. is_too_deep (level + 1) x || b) (deep_under level n xs)

-- the nodes of a child in its directory are those of the child alone, under its name
child_whole : (m : Nodes) (p q : Path) (n : List ℕ) → q ≡ p ++ Name n ∷ [] → child_nodes m p n ≡ map (under (Name n)) (node_and_reached m q)
unfolding node_and_reached
child_whole m p q n at = by (get m (p ++ Name n ∷ [])) ∙ ap (λ z. map (under (Name n)) (node_and_reached m z)) (sym at)
  where
    by : (o : Option FileNode) → child_part m p n o ≡ map (under (Name n)) (whole_part m (p ++ Name n ∷ []) o)
    by None = refl
    by (Some node) = elim (is_folder_kind node.kind) as (λ k. (Name n ∷ [], node) ∷ cond k (map (under (Name n)) (reached m (p ++ Name n ∷ []))) [] ≡ (Name n ∷ [], node) ∷ map (under (Name n)) (cond k (reached m (p ++ Name n ∷ [])) [])) [ true ↦ refl | false ↦ refl ]

-- what was fed for a child is what its directory requires
pub fed_child : {S : Type 0} (holds : S → List ℕ → Type 0) (level : ℕ) (name : Option (List ℕ)) (m : Nodes) (p q : Path) (n : List ℕ) (a b : S) → q ≡ p ++ Name n ∷ []
    → IsFedNodes holds (level + 1) (Some (child_name name n)) (node_and_reached m q) a b → IsFedNodes holds level name (child_nodes m p n) a b
fed_child holds level name m p q n a b at f =
    let e : child_nodes m p n ≡ map (under (Name n)) (node_and_reached m q) = child_whole m p q n at in
    record {
      none_other = ap (list_any is_other) e ∙ (other_under n (node_and_reached m q) ∙ f.none_other);
      none_too_deep = ap (list_any (is_too_deep level)) e ∙ (deep_under level n (node_and_reached m q) ∙ f.none_too_deep);
      fed = λ fed h. subst (λ z. holds b (fed ++ z)) (sym (ap (nodes_material name) e ∙ material_under name n (node_and_reached m q))) (f.fed fed h);
    }

-- ---- all children

module _ {S : Type 0} (holds : S → List ℕ → Type 0) (level : ℕ) (name : Option (List ℕ)) (m : Nodes) (p : Path) (names : List (List ℕ)) (i : ℕ) where
  pub fed_more : (a b c : S) → i < length names → IsFedNodes holds level name (flat_map (child_nodes m p) (take i names)) a b
      → IsFedNodes holds level name (child_nodes m p (get_or names i [])) b c → IsFedNodes holds level name (flat_map (child_nodes m p) (take (i + 1) names)) a c
  fed_more a b c here f g =
      let e : flat_map (child_nodes m p) (take (i + 1) names) ≡ flat_map (child_nodes m p) (take i names) ++ child_nodes m p (get_or names i []) =
      ap (flat_map (child_nodes m p)) (take_more names i [] here)
      ∙ flat_map-append (child_nodes m p) (take i names) (get_or names i [] ∷ [])
      ∙ ap (λ z. flat_map (child_nodes m p) (take i names) ++ z) (append-nil (child_nodes m p (get_or names i []))) in
      subst (λ nodes. IsFedNodes holds level name nodes a c) (sym e) (fed_both holds level name _ _ a b c f g)

  -- after the last child it is what is reached
  pub fed_all : (a b : S) → length names ≤ i → AreChildNames m p names → IsFedNodes holds level name (flat_map (child_nodes m p) (take i names)) a b → IsFedNodes holds level name (reached m p) a b
  fed_all a b all order f =
      let e : flat_map (child_nodes m p) (take i names) ≡ reached m p =
      ap (flat_map (child_nodes m p)) (take_all i names all) ∙ sym (reached_children m p names (subst T (sym order.up) tt) order.all) in
      subst (λ nodes. IsFedNodes holds level name nodes a b) e f

-- ---- the errors of a child

any_child : (test : Path × FileNode → Bool) (m : Nodes) (p : Path) (names : List (List ℕ)) (i : ℕ) → i < length names
    → list_any test (child_nodes m p (get_or names i [])) ≡ true → list_any test (flat_map (child_nodes m p) names) ≡ true
any_child test m p [] i here e = absurd (omega arith)
any_child test m p (n ∷ names) zero here e = list_any-append test (child_nodes m p n) (flat_map (child_nodes m p) names) ∙ or_left _ _ e
any_child test m p (n ∷ names) (suc i) here e = list_any-append test (child_nodes m p n) (flat_map (child_nodes m p) names) ∙ or_right _ _ (any_child test m p names i (omega arith) e)

module _ (m : Nodes) (p q : Path) (names : List (List ℕ)) (i : ℕ) (here : i < length names) (order : AreChildNames m p names) (at : q ≡ p ++ Name (get_or names i []) ∷ []) where
  any_reached : (test : Path × FileNode → Bool) → list_any test (map (under (Name (get_or names i []))) (node_and_reached m q)) ≡ true → list_any test (reached m p) ≡ true
  any_reached test e =
      ap (list_any test) (reached_children m p names (subst T (sym order.up) tt) order.all)
      ∙ any_child test m p names i here (ap (list_any test) (child_whole m p q (get_or names i []) at) ∙ e)

  pub other_reached : list_any is_other (node_and_reached m q) ≡ true → list_any is_other (reached m p) ≡ true
  other_reached e = any_reached is_other (other_under (get_or names i []) (node_and_reached m q) ∙ e)

  pub deep_reached : (level : ℕ) → list_any (is_too_deep (level + 1)) (node_and_reached m q) ≡ true → list_any (is_too_deep level) (reached m p) ≡ true
  deep_reached level e = any_reached (is_too_deep level) (deep_under level (get_or names i []) (node_and_reached m q) ∙ e)
