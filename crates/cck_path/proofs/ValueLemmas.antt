-- Maps whose values are read in one way.
use Rattle.std.proofs.Common.{◌≡◌, ℕ, ◌+◌, ◌<◌, List, [], ◌∷◌, ◌++◌, length, map, take, get_or, Bool, true, false, cond, is_some, Option, Some, None, refl, sym, ap, ◌∙◌}
use Rattle.std.proofs.lemmas.List.{map-append, take_more}
use Rattle.std.specs.FinMap.{FinMap, contains_key, empty, entries, find, from_entries, from_entries_push, get, get-empty, get-entries, get-from_entries, get-insert, get-remove, insert, remove, same_map}
use Rattle.std.specs.Option.{option_map}
use Rattle.std.specs.Ordering.{eq_by_cmp}
use Rattle.cck_path.specs.Path.{Path, path_cmp, path_cmp_total, path_cmp-IsAntisymmetric}
use Rattle.cck_path.specs.PathMap.{pair_of, path_of}
use Rattle.cck_path.specs.Values.{map_values}
use Rattle.cck_path.specs.declared.path_map.Entry.{Entry}
use Rattle.cck_path.proofs.PlaceLemmas.{find_before, in_order_of}

module _ {V W : Type 0} (f : V → W) where
  option_map-cond : (b : Bool) (v : V) (x : Option V) → cond b (Some (f v)) (option_map f x) ≡ option_map f (cond b (Some v) x)
  option_map-cond true v x = refl
  option_map-cond false v x = refl

  option_map-cond_none : (b : Bool) (x : Option V) → option_map f (cond b None x) ≡ cond b None (option_map f x)
  option_map-cond_none true x = refl
  option_map-cond_none false x = refl

  find-map_values : (q : Path) (es : List (Path × V)) → find path_cmp q (map (λ e. (e.0, f e.1)) es) ≡ option_map f (find path_cmp q es)
  find-map_values q [] = refl
  find-map_values q (e ∷ es) = ap (cond (eq_by_cmp path_cmp q e.0) (Some (f e.1))) (find-map_values q es) ∙ option_map-cond (eq_by_cmp path_cmp q e.0) e.1 (find path_cmp q es)

  pub get-map_values : (m : FinMap path_cmp V) (q : Path) → get (map_values f m) q ≡ option_map f (get m q)
  unfolding map_values
  get-map_values m q =
      get-from_entries path_cmp_total (map (λ e. (e.0, f e.1)) (entries m)) q
      ∙ find-map_values q (entries m)
      ∙ ap (option_map f) (sym (get-entries m q))

  is_some-option_map : (x : Option V) → is_some (option_map f x) ≡ is_some x
  is_some-option_map None = refl
  is_some-option_map (Some v) = refl

  -- the same paths have values
  pub contains-map_values : (m : FinMap path_cmp V) (p : Path) → contains_key (map_values f m) p ≡ contains_key m p
  contains-map_values m p = ap is_some (get-map_values m p) ∙ is_some-option_map (get m p)

  pub map_values-empty : map_values f empty ≡ empty
  map_values-empty = same_map path_cmp_total path_cmp-IsAntisymmetric _ _ (λ q. get-map_values empty q ∙ ap (option_map f) (get-empty path_cmp q) ∙ sym (get-empty path_cmp q))

  pub map_values-insert : (m : FinMap path_cmp V) (p : Path) (v : V) → map_values f (insert m p v) ≡ insert (map_values f m) p (f v)
  map_values-insert m p v = same_map path_cmp_total path_cmp-IsAntisymmetric _ _ (λ q.
      get-map_values (insert m p v) q
      ∙ ap (option_map f) (get-insert path_cmp_total m p v q)
      ∙ sym (get-insert path_cmp_total (map_values f m) p (f v) q ∙ ap (cond (eq_by_cmp path_cmp q p) (Some (f v))) (get-map_values m q) ∙ option_map-cond (eq_by_cmp path_cmp q p) v (get m q)))

  pub map_values-remove : (m : FinMap path_cmp V) (p : Path) → map_values f (remove m p) ≡ remove (map_values f m) p
  map_values-remove m p = same_map path_cmp_total path_cmp-IsAntisymmetric _ _ (λ q.
      get-map_values (remove m p) q
      ∙ ap (option_map f) (get-remove path_cmp_total m p q)
      ∙ option_map-cond_none (eq_by_cmp path_cmp q p) (get m q)
      ∙ sym (get-remove path_cmp_total (map_values f m) p q ∙ ap (cond (eq_by_cmp path_cmp q p) None) (get-map_values m q)))

  -- a path and its value, read
  abbrev pub read_pair : Entry V → Path × W
  read_pair e = (path_of e, f e.value)

  map-read_pair : (es : List (Entry V)) → map read_pair es ≡ map (λ e. (e.0, f e.1)) (map pair_of es)
  map-read_pair [] = refl
  map-read_pair (e ∷ es) = ap (λ z. read_pair e ∷ z) (map-read_pair es)

  -- a copy that holds what the first i entries hold
  abbrev pub HoldsFirst : List (Entry V) → ℕ → FinMap path_cmp V → Type 0
  HoldsFirst es i copy = map_values f copy ≡ from_entries (map read_pair (take i es))

  pub holds_more : (es : List (Entry V)) (m : FinMap path_cmp V) → map pair_of es ≡ entries m → (i : ℕ) → i < length es → (e : Entry V) → e ≡ get_or es i e → (v : V) → f v ≡ f e.value → (copy : FinMap path_cmp V) → HoldsFirst es i copy → HoldsFirst es (i + 1) (insert copy (path_of e) v)
  holds_more es m is i low e at v same copy held =
      map_values-insert copy (path_of e) v
      ∙ ap (λ z. insert (map_values f copy) (path_of e) z) same
      ∙ ap (λ z. insert z (path_of e) (f e.value)) held
      ∙ sym (from_entries_push path_cmp_total path_cmp-IsAntisymmetric (map read_pair (take i es)) (path_of e) (f e.value) none)
      ∙ ap from_entries (sym (map-append read_pair (take i es) (e ∷ [])))
      ∙ ap (λ z. from_entries (map read_pair z)) (ap (λ z. take i es ++ z ∷ []) at ∙ sym (take_more es i e low))
    where
      none : find path_cmp (path_of e) (map read_pair (take i es)) ≡ None
      none = ap (find path_cmp (path_of e)) (map-read_pair (take i es)) ∙ find-map_values (path_of e) (map pair_of (take i es)) ∙ ap (option_map f) (find_before es (in_order_of es m is) i low e at)

  pub holds_all : (es : List (Entry V)) (m : FinMap path_cmp V) → map pair_of es ≡ entries m → from_entries (map read_pair es) ≡ map_values f m
  unfolding map_values
  holds_all es m is = ap from_entries (map-read_pair es ∙ ap (map (λ e. (e.0, f e.1))) is)
