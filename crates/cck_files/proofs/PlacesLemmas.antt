-- Files by their places.
use Rattle.std.proofs.Common.{◌≡◌, Option, Some, None, ap, ◌∙◌, sym, Bor, MatchOption, List, map, length, get_or, ℕ, ◌+◌, ◌<◌, arith, IsSome, is_some}
use Rattle.std.proofs.lemmas.List.{take_all}
use Rattle.std.specs.FinMap.{FinMap, empty, entries, from_entries, get, insert, remove}
use Rattle.std.specs.Global.{Box}
use Rattle.std.specs.Option.{option_copied, option_map}
use Rattle.cck_path.specs.Path.{Path, path_cmp}
use Rattle.cck_path.specs.PathMap.{pair_of, path_of}
use Rattle.cck_path.specs.declared.path_map.Entry.{Entry}
use Rattle.cck_path.specs.Values.{map_values}
use Rattle.cck_path.proofs.ValueLemmas.{HoldsFirst, get-map_values, holds_all, holds_more, read_pair, map_values-empty, map_values-insert, map_values-remove}
use Rattle.cck_files.specs.FileState.{boxed_canonical, boxed_node, files_of, linked, no_files, set_option, with_place, without_place}
use Rattle.cck_files.specs.declared.map_files.places.Place.{Place}

pub files_none : files_of empty ≡ no_files
files_none = λ i. record { nodes = map_values-empty boxed_node i; canonicals = map_values-empty boxed_canonical i }

module _ (m : FinMap path_cmp (Box Place)) (p : Path) where
  pub files_with : (place : Box Place) → files_of (insert m p place) ≡ with_place (files_of m) p (boxed_node place) (boxed_canonical place)
  files_with place = λ i. record { nodes = map_values-insert boxed_node m p place i; canonicals = map_values-insert boxed_canonical m p place i }

  pub files_without : files_of (remove m p) ≡ without_place (files_of m) p
  files_without = λ i. record { nodes = map_values-remove boxed_node m p i; canonicals = map_values-remove boxed_canonical m p i }

  -- what the maps have at a path is what its place has
  node_found : (x : Option (Box Place)) → get m p ≡ x → get (files_of m).nodes p ≡ option_map boxed_node x
  node_found x is = get-map_values boxed_node m p ∙ ap (option_map boxed_node) is

  canonical_found : (x : Option (Box Place)) → get m p ≡ x → get (files_of m).canonicals p ≡ option_map boxed_canonical x
  canonical_found x is = get-map_values boxed_canonical m p ∙ ap (option_map boxed_canonical) is

  pub found : (r : Option (Bor (Box Place))) → option_copied r ≡ get m p
      → MatchOption r ((get (files_of m).nodes p ≡ None) × (get (files_of m).canonicals p ≡ None)) (λ place. (get (files_of m).nodes p ≡ Some (boxed_node place.now)) × (get (files_of m).canonicals p ≡ Some (boxed_canonical place.now)))
  found None is = (node_found None (sym is), canonical_found None (sym is))
  found (Some place) is = (node_found (Some place.now) (sym is), canonical_found (Some place.now) (sym is))

  pub has_node : (place : Box Place) → Some place ≡ get m p → IsSome (get (files_of m).nodes p)
  has_node place is = ap is_some (node_found (Some place) (sym is))

  -- a path with what a target has, or with nothing if the target has nothing
  pub linked_none : (target : Path) → None ≡ get m target → without_place (files_of m) p ≡ linked (files_of m) p target
  linked_none target is = λ i. record {
    nodes = set_option (files_of m).nodes p (sym (get-map_values boxed_node m target ∙ ap (option_map boxed_node) (sym is)) i);
    canonicals = set_option (files_of m).canonicals p (sym (get-map_values boxed_canonical m target ∙ ap (option_map boxed_canonical) (sym is)) i);
  }

  pub linked_some : (target : Path) (place : Box Place) → Some place ≡ get m target → with_place (files_of m) p (boxed_node place) (boxed_canonical place) ≡ linked (files_of m) p target
  linked_some target place is = λ i. record {
    nodes = set_option (files_of m).nodes p (sym (get-map_values boxed_node m target ∙ ap (option_map boxed_node) (sym is)) i);
    canonicals = set_option (files_of m).canonicals p (sym (get-map_values boxed_canonical m target ∙ ap (option_map boxed_canonical) (sym is)) i);
  }

-- a copy holds what the first i entries hold
pub record IsCopied (es : List (Entry (Box Place))) (i : ℕ) (copy : FinMap path_cmp (Box Place)) : Type 0 where
  pub nodes : HoldsFirst boxed_node es i copy
  pub canonicals : HoldsFirst boxed_canonical es i copy

pub copied_none : (es : List (Entry (Box Place))) (copy : FinMap path_cmp (Box Place)) → copy ≡ empty → IsCopied es 0 copy
copied_none es copy is = record { nodes = ap (map_values boxed_node) is ∙ map_values-empty boxed_node; canonicals = ap (map_values boxed_canonical) is ∙ map_values-empty boxed_canonical }

module _ (es : List (Entry (Box Place))) (m : FinMap path_cmp (Box Place)) (is : map pair_of es ≡ entries m) where
  pub copied_more : (i : ℕ) → i < length es → (e : Entry (Box Place)) → e ≡ get_or es i e → (place : Box Place) → boxed_node place ≡ boxed_node e.value → boxed_canonical place ≡ boxed_canonical e.value
      → (copy : FinMap path_cmp (Box Place)) → IsCopied es i copy → IsCopied es (i + 1) (insert copy (path_of e) place)
  copied_more i low e at place node canonical copy c = record {
    nodes = holds_more boxed_node es m is i low e at place node copy c.nodes;
    canonicals = holds_more boxed_canonical es m is i low e at place canonical copy c.canonicals;
  }

  pub copied_all : (copy : FinMap path_cmp (Box Place)) → IsCopied es (length es) copy → files_of copy ≡ files_of m
  copied_all copy c = λ i. record {
    nodes = (c.nodes ∙ ap (λ z. from_entries (map (read_pair boxed_node) z)) (take_all (length es) es (omega arith)) ∙ holds_all boxed_node es m is) i;
    canonicals = (c.canonicals ∙ ap (λ z. from_entries (map (read_pair boxed_canonical) z)) (take_all (length es) es (omega arith)) ∙ holds_all boxed_canonical es m is) i;
  }
