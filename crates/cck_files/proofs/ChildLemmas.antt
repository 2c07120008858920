-- Direct children of a directory.
use Rattle.std.proofs.Common.{◌≡◌, ◌≢◌, ℕ, List, [], ◌∷◌, ◌++◌, Bool, true, false, Some, None, MatchBool, length, map, option_and_then, refl, sym, ap, subst, ◌∙◌}
use Rattle.std.specs.List.{AllByRecursion, fold}
use Rattle.std.proofs.lemmas.Iterator.{YieldsList}
use Rattle.std.proofs.lemmas.Iterator.Consumers.{YieldsList-from_shown}
use Rattle.std.specs.Iterator.Adapters.{once_item, once_steps}
use Rattle.std.specs.Option.{option_to_list, unwrap_or}
use Rattle.std.specs.Ordering.{is_eq}
use Rattle.cck_path.specs.Components.{component_of}
use Rattle.cck_path.specs.declared.path.Component as written
use Rattle.cck_path.specs.Names.{file_name_of, last_component, name_of}
use Rattle.cck_path.specs.Path.{Component, IsName, Name, Path, components, leading_names, led_on, path_cmp}
use Rattle.cck_path.proofs.NormalLemmas.{proper_names}
use Rattle.cck_path.proofs.OrderLemmas.{same_by_order}

last_of : (f : Path) (c : Component) → last_component (f ++ c ∷ []) ≡ Some c
last_of [] c = refl
last_of (x ∷ []) c = refl
last_of (x ∷ y ∷ f) c = last_of (y ∷ f) c

name_last : (f : Path) (n : List ℕ) → file_name_of (f ++ Name n ∷ []) ≡ Some n
name_last f n = ap (λ o. option_and_then name_of o) (last_of f (Name n))

led_last : (ns : List (List ℕ)) (f : Path) (n : List ℕ) → fold led_on ns (f ++ Name n ∷ []) ≡ fold led_on ns f ++ n ∷ []
led_last ns [] n = refl
led_last ns (c ∷ f) n = led_last (led_on ns c) f n

all_last : (ns : List (List ℕ)) (n : List ℕ) → AllByRecursion IsName (ns ++ n ∷ []) → IsName n
all_last [] n h = h.0
all_last (m ∷ ns) n h = all_last ns n h.1

-- a name that ends a path is one
is_name : (s : List ℕ) (f : Path) (n : List ℕ) → components s ≡ f ++ Name n ∷ [] → IsName n
is_name s f n is = all_last (leading_names f) n (subst (AllByRecursion IsName) (ap leading_names is ∙ led_last [] f n) (proper_names s))

-- one component, once
pub one_component : {s : _} (c : written.Component) → once_item s ≡ Some c → YieldsList once_steps component_of s (component_of c ∷ [])
one_component {s} c is = subst (λ k. YieldsList once_steps component_of s (map component_of (option_to_list k))) is
    (YieldsList-from_shown once_steps component_of (λ u. map component_of (option_to_list (once_item u))) (λ u t p. ap (λ k. length (map component_of (option_to_list k))) (sym p.0))
    (λ u x t p. ap (λ k. map component_of (option_to_list k)) (sym p.0) ∙ ap (λ k. component_of x ∷ map component_of (option_to_list k)) (sym p.1)) s)

-- a path without a file name is of no child
pub no_child : (p f : Path) → None ≡ file_name_of p → (n : List ℕ) → p ≢ f ++ Name n ∷ []
no_child p f none n is = some≢none n (sym (name_last f n) ∙ ap file_name_of (sym is) ∙ sym none)
  where
    some≢none : (x : List ℕ) → Some x ≢ None
    some≢none x e = cc

-- paths that are equal have the same last name
pub same_last : (f : Path) (n m : List ℕ) → f ++ Name n ∷ [] ≡ f ++ Name m ∷ [] → n ≡ m
same_last f n m is = ap (λ o. unwrap_or o n) (sym (name_last f n) ∙ ap file_name_of is ∙ name_last f m)

-- a path is of a child exactly if it is that of the directory followed by the path's file name
pub child_of : (s : List ℕ) (f : Path) (n : List ℕ) (b : Bool) → b ≡ is_eq (path_cmp (components s) (f ++ Name n ∷ [])) → Some n ≡ file_name_of (components s)
    → MatchBool b (IsName n × (components s ≡ f ++ Name n ∷ [])) ((m : List ℕ) → components s ≢ f ++ Name m ∷ [])
child_of s f n b e last = by b (same_by_order (components s) (f ++ Name n ∷ []) b e)
  where
    same_name : (m : List ℕ) → components s ≡ f ++ Name m ∷ [] → m ≡ n
    same_name m is = ap (λ o. unwrap_or o n) (sym (name_last f m) ∙ ap file_name_of (sym is) ∙ sym last)

    by : (b : Bool) → MatchBool b (components s ≡ f ++ Name n ∷ []) (components s ≢ f ++ Name n ∷ []) → MatchBool b (IsName n × (components s ≡ f ++ Name n ∷ [])) ((m : List ℕ) → components s ≢ f ++ Name m ∷ [])
    by true is = (is_name s f n is, is)
    by false other = λ m is. other (is ∙ ap (λ x. f ++ Name x ∷ []) (same_name m is))
