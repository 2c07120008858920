-- Entries in order, by their places.
use Rattle.std.proofs.Common.{◌≡◌, ◌≢◌, Global, ℕ, zero, suc, ◌+◌, ◌-◌, ◌<◌, inl, inr, List, [], ◌∷◌, length, map, get_or, set, take, Bool, true, false, cond, T, Option, Some, None, Result, Ok, Err, IfOk, IfErr, is_ok, is_some, Ordering, Less, Equal, Greater, refl, sym, ap, subst, ◌∙◌, arith}
use Rattle.std.proofs.lemmas.Bool.{cases_lt, false≢true}
use Rattle.std.proofs.lemmas.Cmp.{tied_itself}
use Rattle.std.proofs.lemmas.List.{get_or_default, length-map}
use Rattle.std.proofs.lemmas.List.Sorted.{searchable_from_sorted}
use Rattle.std.specs.FinMap.{FinMap, empty, empty_of_len, entries, entries_sorted, entries-from_sorted, entries-insert, find, from_sorted, get, get-from_sorted, get-remove, insert, is_sorted, len, len-entries, put, remove, same_entries_map, same_map}
use Rattle.std.specs.List as list
use Rattle.std.specs.List.Sorted.{IsBinarySearchResult, IsNonDecreasingBy, IsSearchInRange}
use Rattle.std.specs.Prelude.{Vec}
use Rattle.std.specs.Ordering.{eq_by_cmp, is_eq, is_lt, ordering_index, ordering_reverse}
use Rattle.cck_path.specs.Path.{Path, components, path_cmp, path_cmp_total, path_cmp-IsAntisymmetric}
use Rattle.cck_path.proofs.TestLemmas.{T_parts, less_from_T, T_and, tied, below_all}
use Rattle.cck_path.specs.PathMap.{IsGapFor, IsInOrder, IsPlaceOf, pair_of, path_of}
use Rattle.cck_path.specs.declared.path_map.Entry.{Entry}

abbrev by_order : {A : Type 0} → Ordering → A → A → A → A
by_order Less a b c = a
by_order Equal a b c = b
by_order Greater a b c = c

pub less≢equal : Less ≢ Equal
less≢equal e = false≢true (ap is_eq e)

untaken : {A : Type 0} (b : Bool) (x : Option A) → (b ≡ true → x ≡ None) → x ≡ cond b None x
untaken true x h = h refl
untaken false x h = refl

taken : {A : Type 0} (b : Bool) (x y : Option A) → (b ≡ true → x ≡ None) → x ≡ cond b None (cond b y x)
taken true x y h = h refl
taken false x y h = refl

swapped : {A : Type 0} (a b : Bool) (x y : Option A) → (a ≡ true → b ≡ true → ⊥) → cond a x (cond b None y) ≡ cond b None (cond a x y)
swapped true true x y apart = absurd (apart refl refl)
swapped true false x y apart = refl
swapped false b x y apart = refl

-- a lower path seen from the higher one
pub higher : (p q : Path) → path_cmp p q ≡ Less → path_cmp q p ≡ Greater
higher p q h = path_cmp_total.antisymm q p ∙ ap ordering_reverse h

pub lower : (p q : Path) → path_cmp p q ≡ Greater → path_cmp q p ≡ Less
lower p q h = path_cmp_total.antisymm q p ∙ ap ordering_reverse h

module _ {V : Type 0} where
  first_below : (e : Entry V) (es : List (Entry V)) → IsInOrder (e ∷ es) → T (below_all (path_of e) (map pair_of es))
  first_below e es h = (T_parts (below_all (path_of e) (map pair_of es)) (is_sorted path_cmp (map pair_of es)) h).0

  pub rest_in_order : (e : Entry V) (es : List (Entry V)) → IsInOrder (e ∷ es) → IsInOrder es
  rest_in_order e es h = (T_parts (below_all (path_of e) (map pair_of es)) (is_sorted path_cmp (map pair_of es)) h).1

  below_at : (p : Path) (es : List (Entry V)) → T (below_all p (map pair_of es)) → (j : ℕ) (d : Entry V) → j < length es → path_cmp p (path_of (get_or es j d)) ≡ Less
  below_at p [] h j d lt = absurd (omega (arith, lt))
  below_at p (e ∷ es) h zero d lt = less_from_T (path_cmp p (path_of e)) (T_parts (is_lt (path_cmp p (path_of e))) (below_all p (map pair_of es)) h).0
  below_at p (e ∷ es) h (suc j) d lt = below_at p es (T_parts (is_lt (path_cmp p (path_of e))) (below_all p (map pair_of es)) h).1 j d (omega (arith, lt))

  -- the paths rise from place to place
  pub rises : (es : List (Entry V)) → IsInOrder es → (i j : ℕ) (d : Entry V) → i < j → j < length es → path_cmp (path_of (get_or es i d)) (path_of (get_or es j d)) ≡ Less
  rises [] h i j d lt range = absurd (omega (arith, range))
  rises (e ∷ es) h i zero d lt range = absurd (omega (arith, lt))
  rises (e ∷ es) h zero (suc j) d lt range = below_at (path_of e) es (first_below e es h) j d (omega (arith, range))
  rises (e ∷ es) h (suc i) (suc j) d lt range = rises es (rest_in_order e es h) i j d (omega (arith, lt)) (omega (arith, range))

  comparisons_rise : (es : List (Entry V)) → IsInOrder es → (p : Path) → IsNonDecreasingBy (λ e. ordering_index (path_cmp (path_of e) p)) es
  comparisons_rise es h p = searchable_from_sorted path_cmp_total path_of es p (λ k d low high. ap is_lt (higher (path_of (get_or es k d)) (path_of (get_or es (k + 1) d)) (rises es h k (k + 1) d (omega arith) high)))

  -- a binary search ends at the path's place, or at the gap for it
  pub searched : (es : List (Entry V)) → IsInOrder es → (p : Path) (r : Result ℕ ℕ) → IsSearchInRange r (length es) → IsBinarySearchResult (λ e. path_cmp (path_of e) p) es r → IfOk r (IsPlaceOf p es) × IfErr r (IsGapFor p es)
  searched es h p (Ok i) range equal = (record { in_range = range; has_path = λ d. path_cmp-IsAntisymmetric _ _ (equal d) }, tt)
  searched es h p (Err i) range parted = (tt, record { in_range = range; lower_before = (parted (comparisons_rise es h p)).0; higher_after = (parted (comparisons_rise es h p)).1 })

  -- a path that the last entry is below would go after it
  pub gap_at_end : (es : List (Entry V)) → IsInOrder es → (p : Path) (last : Entry V) → last ≡ get_or es (length es - 1) last
      → path_cmp (path_of last) p ≡ Less → IsGapFor p es (length es)
  gap_at_end es h p last is below = record {
    in_range = omega arith;
    lower_before = λ k d low high. elim (cases_lt (k + 1) (length es)) [
      | inl earlier ↦
          path_cmp_total.trans (path_of (get_or es k d)) (path_of (get_or es (length es - 1) d)) p (rises es h k (length es - 1) d (omega arith) (omega arith))
          (subst (λ e. path_cmp (path_of e) p ≡ Less) (is ∙ get_or_default es (length es - 1) last d (omega arith)) below)
      | inr at_end ↦
          let same : length es - 1 ≡ k = omega arith in
          subst (λ e. path_cmp (path_of e) p ≡ Less) (is ∙ (get_or_default es (length es - 1) last d (omega arith) ∙ ap (λ i. get_or es i d) same)) below
    ];
    higher_after = λ k d low high. absurd (omega arith);
  }

  gap_after : (p : Path) (e : Entry V) (es : List (Entry V)) (i : ℕ) → IsGapFor p (e ∷ es) (suc i) → IsGapFor p es i
  gap_after p e es i g = record {
    in_range = omega (arith, g.in_range);
    lower_before = λ k d low high. g.lower_before (suc k) d (omega arith) (omega (arith, high));
    higher_after = λ k d low high. g.higher_after (suc k) d (omega (arith, low)) (omega (arith, high));
  }

  gap_before : (p : Path) (e : Entry V) (es : List (Entry V)) → IsGapFor p (e ∷ es) 0 → IsGapFor p es 0
  gap_before p e es g = record {
    in_range = omega arith;
    lower_before = λ k d low high. absurd (omega (arith, high));
    higher_after = λ k d low high. g.higher_after (suc k) d (omega arith) (omega (arith, high));
  }

  place_after : (p : Path) (e : Entry V) (es : List (Entry V)) (i : ℕ) → IsPlaceOf p (e ∷ es) (suc i) → IsPlaceOf p es i
  place_after p e es i at = record { in_range = omega (arith, at.in_range); has_path = at.has_path }

  -- the first path is below that of a later place
  first_lower : (p : Path) (e : Entry V) (es : List (Entry V)) (i : ℕ) → IsInOrder (e ∷ es) → IsPlaceOf p (e ∷ es) (suc i) → path_cmp (path_of e) p ≡ Less
  first_lower p e es i h at = ap (path_cmp (path_of e)) (sym (at.has_path e)) ∙ below_at (path_of e) es (first_below e es h) i e (omega (arith, at.in_range))

  missed : (p : Path) (e : Entry V) (es : List (Entry V)) (o : Ordering) → path_cmp p (path_of e) ≡ o → is_eq o ≡ false → find path_cmp p (map pair_of (e ∷ es)) ≡ find path_cmp p (map pair_of es)
  missed p e es o is other = ap (λ b. cond b (Some e.value) (find path_cmp p (map pair_of es))) (ap is_eq is ∙ other)

  -- the value at a path's place is found
  pub find_at : (es : List (Entry V)) → IsInOrder es → (p : Path) (i : ℕ) → IsPlaceOf p es i → (d : Entry V) → find path_cmp p (map pair_of es) ≡ Some (get_or es i d).value
  find_at [] h p i at d = absurd (omega (arith, at.in_range))
  find_at (e ∷ es) h p zero at d = ap (λ b. cond b (Some e.value) (find path_cmp p (map pair_of es))) (ap (eq_by_cmp path_cmp p) (at.has_path d) ∙ ap is_eq (tied_itself path_cmp_total p))
  find_at (e ∷ es) h p (suc i) at d = missed p e es Greater (higher (path_of e) p (first_lower p e es i h at)) refl ∙ find_at es (rest_in_order e es h) p i (place_after p e es i at) d

  -- a path with a gap isn't found
  pub find_in_gap : (es : List (Entry V)) (p : Path) (i : ℕ) → IsGapFor p es i → find path_cmp p (map pair_of es) ≡ None
  find_in_gap [] p i g = refl
  find_in_gap (e ∷ es) p zero g = missed p e es Less (lower (path_of e) p (g.higher_after 0 e (omega arith) (omega arith))) refl ∙ find_in_gap es p 0 (gap_before p e es g)
  find_in_gap (e ∷ es) p (suc i) g = missed p e es Greater (higher (path_of e) p (g.lower_before 0 e (omega arith) (omega arith))) refl ∙ find_in_gap es p i (gap_after p e es i g)

  find_below : (p : Path) (es : List (Entry V)) → T (below_all p (map pair_of es)) → find path_cmp p (map pair_of es) ≡ None
  find_below p [] h = refl
  find_below p (e ∷ es) h =
      let parts = T_parts (is_lt (path_cmp p (path_of e))) (below_all p (map pair_of es)) h in
      missed p e es Less (less_from_T (path_cmp p (path_of e)) parts.0) refl ∙ find_below p es parts.1

  -- a new value at a path's place
  pub put_at : (es : List (Entry V)) → IsInOrder es → (p : Path) (i : ℕ) → IsPlaceOf p es i → (e : Entry V) → e ≡ get_or es i e → (v : V) → put path_cmp p v (map pair_of es) ≡ map pair_of (set es i (record { path = e.path; value = v }))
  put_at [] h p i at e is v = absurd (omega (arith, at.in_range))
  put_at (f ∷ es) h p zero at e is v =
      ap (λ o. by_order o ((p, v) ∷ map pair_of (f ∷ es)) ((path_of f, v) ∷ map pair_of es) (pair_of f ∷ put path_cmp p v (map pair_of es))) (ap (path_cmp p) (at.has_path f) ∙ tied_itself path_cmp_total p)
      ∙ ap (λ x. (path_of x, v) ∷ map pair_of es) (sym is)
  put_at (f ∷ es) h p (suc i) at e is v =
      ap (λ o. by_order o ((p, v) ∷ map pair_of (f ∷ es)) ((path_of f, v) ∷ map pair_of es) (pair_of f ∷ put path_cmp p v (map pair_of es))) (higher (path_of f) p (first_lower p f es i h at))
      ∙ ap (λ z. pair_of f ∷ z) (put_at es (rest_in_order f es h) p i (place_after p f es i at) e is v)

  -- a new entry in a path's gap
  pub put_in_gap : (es : List (Entry V)) (p : Path) (i : ℕ) → IsGapFor p es i → (path : Vec ℕ Global) → components path.items ≡ p → (v : V) → put path_cmp p v (map pair_of es) ≡ map pair_of (list.insert es i (record { path = path; value = v }))
  put_in_gap [] p zero g path is v = ap (λ q. (q, v) ∷ []) (sym is)
  put_in_gap [] p (suc i) g path is v = ap (λ q. (q, v) ∷ []) (sym is)
  put_in_gap (e ∷ es) p zero g path is v =
      ap (λ o. by_order o ((p, v) ∷ map pair_of (e ∷ es)) ((path_of e, v) ∷ map pair_of es) (pair_of e ∷ put path_cmp p v (map pair_of es))) (lower (path_of e) p (g.higher_after 0 e (omega arith) (omega arith)))
      ∙ ap (λ q. (q, v) ∷ map pair_of (e ∷ es)) (sym is)
  put_in_gap (e ∷ es) p (suc i) g path is v =
      ap (λ o. by_order o ((p, v) ∷ map pair_of (e ∷ es)) ((path_of e, v) ∷ map pair_of es) (pair_of e ∷ put path_cmp p v (map pair_of es))) (higher (path_of e) p (g.lower_before 0 e (omega arith) (omega arith)))
      ∙ ap (λ z. pair_of e ∷ z) (put_in_gap es p i (gap_after p e es i g) path is v)

  put_in_order : (es : List (Entry V)) → IsInOrder es → (p : Path) (v : V) → entries (insert (from_sorted {R = path_cmp} (map pair_of es)) p v) ≡ put path_cmp p v (map pair_of es)
  put_in_order es h p v = entries-insert path_cmp_total (from_sorted (map pair_of es)) p v ∙ ap (put path_cmp p v) (entries-from_sorted path_cmp (map pair_of es) h)

  -- entries that a put gives are in order
  pub in_order : (es new : List (Entry V)) → IsInOrder es → (p : Path) (v : V) → put path_cmp p v (map pair_of es) ≡ map pair_of new → IsInOrder new
  in_order es new h p v is = subst (λ z. T (is_sorted path_cmp z)) (put_in_order es h p v ∙ is) (entries_sorted (insert (from_sorted {R = path_cmp} (map pair_of es)) p v))

  -- and they are the map's with the new value
  pub inserted : (es new : List (Entry V)) → IsInOrder es → (p : Path) (v : V) → put path_cmp p v (map pair_of es) ≡ map pair_of new → from_sorted {R = path_cmp} (map pair_of new) ≡ insert (from_sorted (map pair_of es)) p v
  inserted es new h p v is = same_entries_map _ _ (entries-from_sorted path_cmp (map pair_of new) (in_order es new h p v is) ∙ sym is ∙ sym (put_in_order es h p v))

  below_without : (p : Path) (es : List (Entry V)) (i : ℕ) → T (below_all p (map pair_of es)) → T (below_all p (map pair_of (list.remove es i)))
  below_without p [] zero h = tt
  below_without p [] (suc i) h = tt
  below_without p (e ∷ es) zero h = (T_parts (is_lt (path_cmp p (path_of e))) (below_all p (map pair_of es)) h).1
  below_without p (e ∷ es) (suc i) h =
      let parts = T_parts (is_lt (path_cmp p (path_of e))) (below_all p (map pair_of es)) h in
      T_and (is_lt (path_cmp p (path_of e))) (below_all p (map pair_of (list.remove es i))) parts.0 (below_without p es i parts.1)

  -- without one of them, entries are still in order
  pub without_in_order : (es : List (Entry V)) (i : ℕ) → IsInOrder es → IsInOrder (list.remove es i)
  without_in_order [] zero h = tt
  without_in_order [] (suc i) h = tt
  without_in_order (e ∷ es) zero h = rest_in_order e es h
  without_in_order (e ∷ es) (suc i) h =
      T_and (below_all (path_of e) (map pair_of (list.remove es i))) (is_sorted path_cmp (map pair_of (list.remove es i))) (below_without (path_of e) es i (first_below e es h)) (without_in_order es i (rest_in_order e es h))

  find_without : (es : List (Entry V)) → IsInOrder es → (p : Path) (i : ℕ) → IsPlaceOf p es i → (q : Path) → find path_cmp q (map pair_of (list.remove es i)) ≡ cond (eq_by_cmp path_cmp q p) None (find path_cmp q (map pair_of es))
  find_without [] h p i at q = absurd (omega (arith, at.in_range))
  find_without (e ∷ es) h p zero at q =
      rw (← at.has_path e) (taken (eq_by_cmp path_cmp q (path_of e)) (find path_cmp q (map pair_of es)) (Some e.value)
      (λ t. ap (λ z. find path_cmp z (map pair_of es)) (tied q (path_of e) t) ∙ find_below (path_of e) es (first_below e es h)))
  find_without (e ∷ es) h p (suc i) at q =
      ap (cond (eq_by_cmp path_cmp q (path_of e)) (Some e.value)) (find_without es (rest_in_order e es h) p i (place_after p e es i at) q)
      ∙ swapped (eq_by_cmp path_cmp q (path_of e)) (eq_by_cmp path_cmp q p) (Some e.value) (find path_cmp q (map pair_of es))
      (λ t u. less≢equal (sym (first_lower p e es i h at) ∙ ap (λ z. path_cmp z p) (sym (tied q (path_of e) t) ∙ tied q p u) ∙ tied_itself path_cmp_total p))

  -- a path isn't found before its place
  pub find_before : (es : List (Entry V)) → IsInOrder es → (i : ℕ) → i < length es → (e : Entry V) → e ≡ get_or es i e → find path_cmp (path_of e) (map pair_of (take i es)) ≡ None
  find_before [] h i low e at = absurd (omega (arith, low))
  find_before (f ∷ es) h zero low e at = refl
  find_before (f ∷ es) h (suc i) low e at =
      missed (path_of e) f (take i es) Greater (higher (path_of f) (path_of e) (ap (λ x. path_cmp (path_of f) (path_of x)) at ∙ below_at (path_of f) es (first_below f es h) i e (omega (arith, low)))) refl
      ∙ find_before es (rest_in_order f es h) i (omega (arith, low)) e at

  -- a map's entries are in order
  pub in_order_of : (es : List (Entry V)) (m : FinMap path_cmp V) → map pair_of es ≡ entries m → IsInOrder es
  in_order_of es m is = subst (λ z. T (is_sorted path_cmp z)) (sym is) (entries_sorted m)

  -- the number of entries is the map's
  pub len_is : (es : List (Entry V)) (m : FinMap path_cmp V) → map pair_of es ≡ entries m → length es ≡ len m
  len_is es m is = sym (length-map es pair_of) ∙ ap length is ∙ sym (len-entries m)

  -- an empty list is the empty map
  pub none_in : (es : List (Entry V)) → es ≡ [] → from_sorted {R = path_cmp} (map pair_of es) ≡ empty
  none_in es none = empty_of_len _ (len-entries (from_sorted (map pair_of es)) ∙ ap (λ z. length (entries (from_sorted {R = path_cmp} (map pair_of z)))) none ∙ ap length (entries-from_sorted path_cmp [] tt))

  module _ (es : List (Entry V)) (h : IsInOrder es) where
    pub get_at : (p : Path) (i : ℕ) → IsPlaceOf p es i → (e : Entry V) → e ≡ get_or es i e → Some e.value ≡ get (from_sorted {R = path_cmp} (map pair_of es)) p
    get_at p i at e is = ap (λ x. Some x.value) is ∙ sym (get-from_sorted path_cmp (map pair_of es) p h ∙ find_at es h p i at e)

    pub get_in_gap : (p : Path) (i : ℕ) → IsGapFor p es i → None ≡ get (from_sorted {R = path_cmp} (map pair_of es)) p
    get_in_gap p i g = sym (get-from_sorted path_cmp (map pair_of es) p h ∙ find_in_gap es p i g)

    pub removed : (p : Path) (i : ℕ) → IsPlaceOf p es i → from_sorted {R = path_cmp} (map pair_of (list.remove es i)) ≡ remove (from_sorted (map pair_of es)) p
    removed p i at = same_map path_cmp_total path_cmp-IsAntisymmetric _ _ (λ q.
        get-from_sorted path_cmp (map pair_of (list.remove es i)) q (without_in_order es i h)
        ∙ find_without es h p i at q
        ∙ ap (cond (eq_by_cmp path_cmp q p) None) (sym (get-from_sorted path_cmp (map pair_of es) q h))
        ∙ sym (get-remove path_cmp_total (from_sorted (map pair_of es)) p q))

  pub contained : (es : List (Entry V)) → IsInOrder es → (p : Path) (r : Result ℕ ℕ) → IfOk r (IsPlaceOf p es) → IfErr r (IsGapFor p es) → is_ok r ≡ is_some (get (from_sorted {R = path_cmp} (map pair_of es)) p)
  contained es h p (Err i) at g = ap is_some (get_in_gap es h p i g)
  contained [] h p (Ok i) at g = absurd (omega (arith, at.in_range))
  contained (e ∷ es) h p (Ok i) at g = ap is_some (get_at (e ∷ es) h p i at (get_or (e ∷ es) i e) (get_or_default (e ∷ es) i e (get_or (e ∷ es) i e) at.in_range))

  -- the removal of a path without a value changes nothing
  pub remove_nothing : (m : FinMap path_cmp V) (p : Path) → None ≡ get m p → m ≡ remove m p
  remove_nothing m p none = same_map path_cmp_total path_cmp-IsAntisymmetric _ _ (λ q.
      untaken (eq_by_cmp path_cmp q p) (get m q) (λ t. ap (get m) (tied q p t) ∙ sym none) ∙ sym (get-remove path_cmp_total m p q))
