-- The names of a directory's children, from what is reached from it.
use Rattle.std.proofs.Common.{◌≡◌, ℕ, suc, ◌<◌, List, [], ◌∷◌, ◌++◌, length, Bool, true, false, cond, Option, None, Some, map, refl, sym, ap, subst, ◌∙◌, arith, get_or}
use Rattle.std.specs.Prelude.{T, filter_map, flat_map, is_some}
use Rattle.std.specs.FinMap.{entries, get}
use Rattle.std.specs.List.{AllByRecursion, cons_option}
use Rattle.std.specs.Option.{unwrap_or}
use Rattle.std.proofs.lemmas.List.Elements.{filter_map-append}
use Rattle.cck_path.specs.Path.{Component, Name, Path}
use Rattle.cck_files.specs.FileMap.{FileNode, Nodes}
use Rattle.cck_files.specs.Folder.{AreChildNames, child_names, only_name}
use Rattle.cck_files.specs.FolderText.{following, if_reached, is_folder_kind, is_reached, reached}
use Rattle.cck_files.proofs.FolderChildLemmas.{child_nodes, child_part, reached_children, under}

abbrev only : List (Path × FileNode) → List (List ℕ)
only es = filter_map (λ e. only_name e.0) es

-- a path that is not empty
abbrev IsBelow : Path × FileNode → Type 0
IsBelow e = (c : Component) × (q : Path) × (e.0 ≡ c ∷ q)

below : (m : Nodes) (f : Path) → AllByRecursion IsBelow (reached m f)
unfolding reached
below m f = all (entries m)
  where
    by : (b : Bool) (c : Component) (q : Path) (n : FileNode) (x : Path × FileNode) → cond b (Some (c ∷ q, n)) None ≡ Some x → IsBelow x
    by true c q n x e = let is : (c ∷ q, n) ≡ x = ap (λ o. unwrap_or o x) e in (c, q, ap (λ y. y.0) (sym is))
    by false c q n x e = cc

    one : (n : FileNode) (rest : Option Path) (x : Path × FileNode) → if_reached m f n rest ≡ Some x → IsBelow x
    one n None x e = cc
    one n (Some []) x e = cc
    one n (Some (c ∷ q)) x e = by (is_reached m f (c ∷ q)) c q n x e

    more : (o : Option (Path × FileNode)) (es : List (Path × FileNode)) → ((x : Path × FileNode) → o ≡ Some x → IsBelow x) → AllByRecursion IsBelow es → AllByRecursion IsBelow (cons_option o es)
    more None es is h = h
    more (Some x) es is h = (is x refl, h)

    all : (es : List (Path × FileNode)) → AllByRecursion IsBelow (filter_map (λ e. if_reached m f e.1 (following f e.0)) es)
    all [] = tt
    all (e ∷ es) = more (if_reached m f e.1 (following f e.0)) (filter_map (λ d. if_reached m f d.1 (following f d.0)) es) (one e.1 (following f e.0)) (all es)

-- what is below a child has no single name
deeper : (n : List ℕ) (es : List (Path × FileNode)) → AllByRecursion IsBelow es → only (map (under (Name n)) es) ≡ []
deeper n [] h = refl
deeper n (e ∷ es) h = ap (λ q. only ((Name n ∷ q, e.1) ∷ map (under (Name n)) es)) h.0.2 ∙ deeper n es h.1

module _ (m : Nodes) (f : Path) where
  child_alone : (n : List ℕ) (o : Option FileNode) → is_some o ≡ true → only (child_part m f n o) ≡ n ∷ []
  child_alone n None h = cc
  child_alone n (Some node) h = ap (λ ns. n ∷ ns) (elim (is_folder_kind node.kind) as (λ b. only (cond b (map (under (Name n)) (reached m (f ++ Name n ∷ []))) []) ≡ []) [
    | true ↦ deeper n (reached m (f ++ Name n ∷ [])) (below m (f ++ Name n ∷ []))
    | false ↦ refl
  ])

  children_alone : (ns : List (List ℕ)) → ((i : ℕ) → i < length ns → is_some (get m (f ++ Name (get_or ns i []) ∷ [])) ≡ true) → only (flat_map (child_nodes m f) ns) ≡ ns
  children_alone [] stand = refl
  children_alone (n ∷ ns) stand =
      filter_map-append (λ e. only_name e.0) (child_nodes m f n) (flat_map (child_nodes m f) ns)
      ∙ ap (λ xs. xs ++ only (flat_map (child_nodes m f) ns)) (child_alone n (get m (f ++ Name n ∷ [])) (stand 0 (omega arith)))
      ∙ ap (λ xs. n ∷ xs) (children_alone ns (λ i low. stand (suc i) (omega (arith, low))))

  -- the names of all children, in order
  pub names_in_order : (names : List (List ℕ)) → AreChildNames m f names → names ≡ child_names m f
  unfolding child_names
  names_in_order names order =
      sym (children_alone names order.stand)
      ∙ ap only (sym (reached_children m f names (subst T (sym order.up) tt) order.all))
