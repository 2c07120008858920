-- Blocks of entries, one after another.
use Rattle.std.proofs.Common.{◌≡◌, Global, ℕ, zero, suc, ◌+◌, ◌-◌, ◌<◌, ◌≤◌, List, [], ◌∷◌, ◌++◌, length, map, get_or, set, take, true, false, T, Result, Ok, Err, Option, Some, None, IfOk, IfErr, OnErr, Ordering, Less, Equal, Greater, refl, sym, ap, subst, ◌∙◌, append_assoc, arith}
use Rattle.std.proofs.lemmas.Bool.{false≢true}
use Rattle.std.proofs.lemmas.Bool.Decides.{nat_tests}
use Rattle.std.proofs.lemmas.List.{get_or_default, length-append, set-append_left, set-append_right, take_all, append-nil}
use Rattle.std.proofs.lemmas.List.Concat.{get_or-flat_map}
use Rattle.std.proofs.lemmas.List.Folds.{length-flat_map-take}
use Rattle.std.proofs.lemmas.List.Edits.{insert-append_left, insert-append_right, remove-append_left, remove-append_right}
use Rattle.std.proofs.lemmas.List.Sorted.{searchable_from_sorted}
use Rattle.std.specs.List as list
use Rattle.std.specs.List.Sorted.{IsBinarySearchResult, IsSearchInRange}
use Rattle.std.specs.Prelude.{◌==◌, Vec}
use Rattle.std.specs.Ordering.{is_gt, is_lt}
use Rattle.cck_path.specs.Path.{Path, path_cmp, path_cmp_total, path_cmp-IsAntisymmetric}
use Rattle.std.specs.FinMap.{entries-from_sorted, from_sorted, get, is_sorted, len}
use Rattle.cck_path.proofs.TestLemmas.{T_parts, T_and, below_all}
use Rattle.cck_path.specs.Blocks.{IsBlockFor, HasNoEntry, AreOrderedBlocks, IsPositionFor, NoneEmpty, entries_of, first_entry_path, place_of, start_of}
use Rattle.cck_path.specs.PathMap.{IsGapFor, IsInOrder, IsPlaceOf, pair_of, path_of}
use Rattle.cck_path.specs.declared.path_map.Entry.{Entry}
use Rattle.cck_path.proofs.PlaceLemmas.{get_in_gap, len_is, higher, lower, rises}

add_sub : (n i : ℕ) → n + i - n ≡ i
add_sub n i = omega arith

by_place : {A : Type 0} (i n : ℕ) → (i < n → A) → ((m : ℕ) → i ≡ n + m → A) → A
by_place i zero f g = g i (omega arith)
by_place zero (suc n) f g = f (omega arith)
by_place (suc i) (suc n) f g = by_place i n (λ h. f (omega arith)) (λ m e. g m (omega arith))

below_not_higher : (x y z : Path) → path_cmp x y ≡ Less → is_gt (path_cmp y z) ≡ false → path_cmp x z ≡ Less
below_not_higher x y z low other = by_order (path_cmp y z) refl
  where
    by_order : (o : Ordering) → path_cmp y z ≡ o → path_cmp x z ≡ Less
    by_order Less is = path_cmp_total.trans x y z low is
    by_order Equal is = ap (path_cmp x) (sym (path_cmp-IsAntisymmetric y z is)) ∙ low
    by_order Greater is = absurd (false≢true (sym other ∙ ap is_gt is))

pub on_err : {A B : Type 0} (r : Result A B) (P : Type 0) → P → OnErr r P
on_err (Ok x) P h = tt
on_err (Err y) P h = h

module _ {V : Type 0} where
  -- ---- places

  pub get_at_flat : (bs : List (Vec (Entry V) Global)) (k j : ℕ) (d : Vec (Entry V) Global) (e : Entry V) → k < length bs → j < length (get_or bs k d).items
      → get_or (entries_of bs) (start_of bs k + j) e ≡ get_or (get_or bs k d).items j e
  get_at_flat bs k j d e h g = get_or-flat_map (λ b. b.items) bs k j d e h g

  pub start_fits : (bs : List (Vec (Entry V) Global)) (k : ℕ) (d : Vec (Entry V) Global) → k < length bs → start_of bs k + length (get_or bs k d).items ≤ length (entries_of bs)
  start_fits bs k d h = length-flat_map-take (λ b. b.items) bs k d h

  pub start_next : (bs : List (Vec (Entry V) Global)) (k : ℕ) (d : Vec (Entry V) Global) → k < length bs → start_of bs (k + 1) ≡ start_of bs k + length (get_or bs k d).items
  start_next [] k d h = absurd (omega arith)
  start_next (b ∷ bs) zero d h = ap length (append-nil b.items) ∙ omega arith
  start_next (b ∷ bs) (suc k) d h =
      let next : suc k + 1 ≡ suc (k + 1) = omega arith in
      let more = start_next bs k d (omega arith) in
      let one = length-append b.items (entries_of (take (k + 1) bs)) in
      let two = length-append b.items (entries_of (take k bs)) in
      rw next (omega arith)

  pub some_at : (bs : List (Vec (Entry V) Global)) (k : ℕ) (d : Vec (Entry V) Global) → NoneEmpty bs → k < length bs → 0 < length (get_or bs k d).items
  some_at [] k d some h = absurd (omega arith)
  some_at (b ∷ bs) zero d some h = some.0
  some_at (b ∷ bs) (suc k) d some h = some_at bs k d some.1 (omega arith)

  first_is : (es : List (Entry V)) (e : Entry V) → 0 < length es → first_entry_path es ≡ path_of (get_or es 0 e)
  first_is [] e h = absurd (omega arith)
  first_is (f ∷ es) e h = refl

  -- a block's first path is that of the entry at its start
  pub first_at : (bs : List (Vec (Entry V) Global)) (k : ℕ) (d : Vec (Entry V) Global) (e : Entry V) → NoneEmpty bs → k < length bs
      → first_entry_path (get_or bs k d).items ≡ path_of (get_or (entries_of bs) (start_of bs k) e)
  first_at bs k d e some h =
      let zeroth : start_of bs k + 0 ≡ start_of bs k = omega arith in
      first_is (get_or bs k d).items e (some_at bs k d some h)
      ∙ ap path_of (sym (get_at_flat bs k 0 d e h (some_at bs k d some h)))
      ∙ ap (λ i. path_of (get_or (entries_of bs) i e)) zeroth

  -- ---- edits

  -- an edit of one block is one of the whole
  edit_in : (P : ℕ → ℕ → Type 0) (F : List (Entry V) → ℕ → List (Entry V))
      → ((xs ys : List (Entry V)) (i : ℕ) → P i (length xs) → F (xs ++ ys) i ≡ F xs i ++ ys)
      → ((xs ys : List (Entry V)) (i : ℕ) → F (xs ++ ys) (length xs + i) ≡ xs ++ F ys i)
      → (bs : List (Vec (Entry V) Global)) (k j : ℕ) (d c : Vec (Entry V) Global) → k < length bs → P j (length (get_or bs k d).items)
      → c.items ≡ F (get_or bs k d).items j → entries_of (set bs k c) ≡ F (entries_of bs) (start_of bs k + j)
  edit_in P F left right [] k j d c h p is = absurd (omega arith)
  edit_in P F left right (b ∷ bs) zero j d c h p is =
      let zeroth : 0 + j ≡ j = omega arith in
      rw zeroth (ap (λ es. es ++ entries_of bs) is ∙ sym (left b.items (entries_of bs) j p))
  edit_in P F left right (b ∷ bs) (suc k) j d c h p is =
      let long = length-append b.items (entries_of (take k bs)) in
      let place : length b.items + (start_of bs k + j) ≡ length (b.items ++ entries_of (take k bs)) + j = omega arith in
      ap (λ es. b.items ++ es) (edit_in P F left right bs k j d c (omega arith) p is)
      ∙ sym (right b.items (entries_of bs) (start_of bs k + j))
      ∙ ap (F (b.items ++ entries_of bs)) place

  pub insert_in : (bs : List (Vec (Entry V) Global)) (k j : ℕ) (d c : Vec (Entry V) Global) (e : Entry V) → k < length bs → j ≤ length (get_or bs k d).items
      → c.items ≡ list.insert (get_or bs k d).items j e → entries_of (set bs k c) ≡ list.insert (entries_of bs) (start_of bs k + j) e
  insert_in bs k j d c e = edit_in (λ i n. i ≤ n) (λ es i. list.insert es i e)
      (λ xs ys i le. insert-append_left xs ys i e le)
      (λ xs ys i. insert-append_right xs ys (length xs) (length xs + i) e refl (omega arith) ∙ ap (λ n. xs ++ list.insert ys n e) (add_sub (length xs) i))
      bs k j d c

  pub set_in : (bs : List (Vec (Entry V) Global)) (k j : ℕ) (d c : Vec (Entry V) Global) (e : Entry V) → k < length bs → j < length (get_or bs k d).items
      → c.items ≡ set (get_or bs k d).items j e → entries_of (set bs k c) ≡ set (entries_of bs) (start_of bs k + j) e
  set_in bs k j d c e = edit_in (λ i n. i < n) (λ es i. set es i e)
      (λ xs ys i lt. set-append_left xs ys i e lt)
      (λ xs ys i. set-append_right xs ys (length xs) (length xs + i) e refl (omega arith) ∙ ap (λ n. xs ++ set ys n e) (add_sub (length xs) i))
      bs k j d c

  pub remove_in : (bs : List (Vec (Entry V) Global)) (k j : ℕ) (d c : Vec (Entry V) Global) → k < length bs → j < length (get_or bs k d).items
      → c.items ≡ list.remove (get_or bs k d).items j → entries_of (set bs k c) ≡ list.remove (entries_of bs) (start_of bs k + j)
  remove_in bs k j d c = edit_in (λ i n. i < n) (λ es i. list.remove es i)
      (λ xs ys i lt. remove-append_left xs ys i lt)
      (λ xs ys i. remove-append_right xs ys (length xs) (length xs + i) refl (omega arith) ∙ ap (λ n. xs ++ list.remove ys n) (add_sub (length xs) i))
      bs k j d c

  -- a block in place of one with the same entries
  pub same_in : (bs : List (Vec (Entry V) Global)) (k : ℕ) (d c : Vec (Entry V) Global) → k < length bs → c.items ≡ (get_or bs k d).items → entries_of (set bs k c) ≡ entries_of bs
  same_in [] k d c h is = absurd (omega arith)
  same_in (b ∷ bs) zero d c h is = ap (λ es. es ++ entries_of bs) is
  same_in (b ∷ bs) (suc k) d c h is = ap (λ es. b.items ++ es) (same_in bs k d c (omega arith) is)

  -- an empty block that is taken out leaves the entries
  pub remove_empty : (bs : List (Vec (Entry V) Global)) (k : ℕ) (d : Vec (Entry V) Global) → k < length bs → (get_or bs k d).items ≡ [] → entries_of (list.remove bs k) ≡ entries_of bs
  remove_empty [] k d h none = absurd (omega arith)
  remove_empty (b ∷ bs) zero d h none = sym (ap (λ es. es ++ entries_of bs) none)
  remove_empty (b ∷ bs) (suc k) d h none = ap (λ es. b.items ++ es) (remove_empty bs k d (omega arith) none)

  cut : (bs : List (Vec (Entry V) Global)) (k : ℕ) (d c front rest : Vec (Entry V) Global) → k < length bs → (get_or bs k d).items ≡ front.items ++ rest.items
      → entries_of (set (set (list.insert bs (suc k) c) k front) (suc k) rest) ≡ entries_of bs
  cut [] k d c front rest h is = absurd (omega arith)
  cut (b ∷ bs) zero d c front rest h is = sym (append_assoc front.items rest.items (entries_of bs)) ∙ ap (λ es. es ++ entries_of bs) (sym is)
  cut (b ∷ bs) (suc k) d c front rest h is = ap (λ es. b.items ++ es) (cut bs k d c front rest (omega arith) is)

  -- two blocks in place of one
  pub cut_in : (bs : List (Vec (Entry V) Global)) (k : ℕ) (d c front rest : Vec (Entry V) Global) → k < length bs → (get_or bs k d).items ≡ front.items ++ rest.items
      → entries_of (set (set (list.insert bs (k + 1) c) k front) (k + 1) rest) ≡ entries_of bs
  cut_in bs k d c front rest h is = let next : k + 1 ≡ suc k = omega arith in rw next (cut bs k d c front rest h is)

  undone-at : (bs : List (Vec (Entry V) Global)) (k : ℕ) (c x : Vec (Entry V) Global) → k < length bs → x ≡ get_or bs k x → list.remove (set (list.insert bs (suc k) c) k x) (suc k) ≡ bs
  undone-at [] k c x h is = absurd (omega arith)
  undone-at (b ∷ bs) zero c x h is = ap (λ y. y ∷ bs) is
  undone-at (b ∷ bs) (suc k) c x h is = ap (λ l. b ∷ l) (undone-at bs k c x (omega arith) is)

  -- a block that was put in and taken out again
  pub undone : (bs : List (Vec (Entry V) Global)) (k : ℕ) (c x : Vec (Entry V) Global) → k < length bs → x ≡ get_or bs k x → list.remove (set (list.insert bs (k + 1) c) k x) (k + 1) ≡ bs
  undone bs k c x h is = let next : k + 1 ≡ suc k = omega arith in rw next (undone-at bs k c x h is)

  pub none_of : (es : List (Entry V)) (n : ℕ) → n ≡ length es → (n == 0) ≡ true → es ≡ []
  none_of [] n is h = refl
  none_of (e ∷ es) n is h = absurd (grind (arith, nat_tests))

  -- ---- no block is empty

  pub some_set : (bs : List (Vec (Entry V) Global)) (k : ℕ) (c : Vec (Entry V) Global) → NoneEmpty bs → 0 < length c.items → NoneEmpty (set bs k c)
  some_set [] k c some h = tt
  some_set (b ∷ bs) zero c some h = (h, some.1)
  some_set (b ∷ bs) (suc k) c some h = (some.0, some_set bs k c some.1 h)

  pub some_remove : (bs : List (Vec (Entry V) Global)) (k : ℕ) → NoneEmpty bs → NoneEmpty (list.remove bs k)
  some_remove [] zero some = tt
  some_remove [] (suc k) some = tt
  some_remove (b ∷ bs) zero some = some.1
  some_remove (b ∷ bs) (suc k) some = (some.0, some_remove bs k some.1)

  -- the block that was emptied is taken out
  pub some_without : (bs : List (Vec (Entry V) Global)) (k : ℕ) (c : Vec (Entry V) Global) → NoneEmpty bs → k < length bs → NoneEmpty (list.remove (set bs k c) k)
  some_without [] k c some h = absurd (omega arith)
  some_without (b ∷ bs) zero c some h = some.1
  some_without (b ∷ bs) (suc k) c some h = (some.0, some_without bs k c some.1 (omega arith))

  cut_some : (bs : List (Vec (Entry V) Global)) (k : ℕ) (c front rest : Vec (Entry V) Global) → NoneEmpty bs → k < length bs → 0 < length front.items → 0 < length rest.items
      → NoneEmpty (set (set (list.insert bs (suc k) c) k front) (suc k) rest)
  cut_some [] k c front rest some h f r = absurd (omega arith)
  cut_some (b ∷ bs) zero c front rest some h f r = (f, (r, some.1))
  cut_some (b ∷ bs) (suc k) c front rest some h f r = (some.0, cut_some bs k c front rest some.1 (omega arith) f r)

  pub some_cut : (bs : List (Vec (Entry V) Global)) (k : ℕ) (c front rest : Vec (Entry V) Global) → NoneEmpty bs → k < length bs → 0 < length front.items → 0 < length rest.items
      → NoneEmpty (set (set (list.insert bs (k + 1) c) k front) (k + 1) rest)
  some_cut bs k c front rest some h f r = let next : k + 1 ≡ suc k = omega arith in rw next (cut_some bs k c front rest some h f r)

  -- ---- order

  below_front : (p : Path) (xs ys : List (Entry V)) → T (below_all p (map pair_of (xs ++ ys))) → T (below_all p (map pair_of xs))
  below_front p [] ys h = tt
  below_front p (x ∷ xs) ys h =
      let parts = T_parts (is_lt (path_cmp p (path_of x))) (below_all p (map pair_of (xs ++ ys))) h in
      T_and (is_lt (path_cmp p (path_of x))) (below_all p (map pair_of xs)) parts.0 (below_front p xs ys parts.1)

  front_in_order : (xs ys : List (Entry V)) → IsInOrder (xs ++ ys) → IsInOrder xs
  front_in_order [] ys h = tt
  front_in_order (x ∷ xs) ys h =
      let parts = T_parts (below_all (path_of x) (map pair_of (xs ++ ys))) (is_sorted path_cmp (map pair_of (xs ++ ys))) h in
      T_and (below_all (path_of x) (map pair_of xs)) (is_sorted path_cmp (map pair_of xs)) (below_front (path_of x) xs ys parts.0) (front_in_order xs ys parts.1)

  back_in_order : (xs ys : List (Entry V)) → IsInOrder (xs ++ ys) → IsInOrder ys
  back_in_order [] ys h = h
  back_in_order (x ∷ xs) ys h = back_in_order xs ys (T_parts (below_all (path_of x) (map pair_of (xs ++ ys))) (is_sorted path_cmp (map pair_of (xs ++ ys))) h).1

  pub block_in_order : (bs : List (Vec (Entry V) Global)) (k : ℕ) (d : Vec (Entry V) Global) → IsInOrder (entries_of bs) → k < length bs → IsInOrder (get_or bs k d).items
  block_in_order [] k d h g = absurd (omega arith)
  block_in_order (b ∷ bs) zero d h g = front_in_order b.items (entries_of bs) h
  block_in_order (b ∷ bs) (suc k) d h g = block_in_order bs k d (back_in_order b.items (entries_of bs) h) (omega arith)

  an_entry : (es : List (Entry V)) → 0 < length es → Entry V
  an_entry [] h = absurd (omega arith)
  an_entry (e ∷ es) h = e

  start_grows : (bs : List (Vec (Entry V) Global)) (i j : ℕ) → i ≤ j → start_of bs i ≤ start_of bs j
  start_grows [] zero zero h = omega arith
  start_grows [] zero (suc j) h = omega arith
  start_grows [] (suc i) zero h = omega arith
  start_grows [] (suc i) (suc j) h = omega arith
  start_grows (b ∷ bs) zero j h = omega arith
  start_grows (b ∷ bs) (suc i) zero h = absurd (omega arith)
  start_grows (b ∷ bs) (suc i) (suc j) h =
      let one = length-append b.items (entries_of (take i bs)) in
      let two = length-append b.items (entries_of (take j bs)) in
      let more = start_grows bs i j (omega arith) in
      omega arith

  start_end : (bs : List (Vec (Entry V) Global)) (n : ℕ) → length bs ≤ n → start_of bs n ≡ length (entries_of bs)
  start_end bs n h = ap (λ l. length (entries_of l)) (take_all n bs h)

  -- the blocks' first paths rise
  firsts_rise : (bs : List (Vec (Entry V) Global)) → AreOrderedBlocks bs → (i j : ℕ) (d : Vec (Entry V) Global) → i < j → j < length bs
      → path_cmp (first_entry_path (get_or bs i d).items) (first_entry_path (get_or bs j d).items) ≡ Less
  firsts_rise bs ordered i j d lt h =
      let some_i = some_at bs i d ordered.none_empty (omega arith) in
      let some_j = some_at bs j d ordered.none_empty h in
      let e = an_entry (get_or bs i d).items some_i in
      let next = start_next bs i d (omega arith) in
      let grows = start_grows bs (i + 1) j (omega arith) in
      let fits = start_fits bs j d h in
      ap (λ p. path_cmp p (first_entry_path (get_or bs j d).items)) (first_at bs i d e ordered.none_empty (omega arith))
      ∙ ap (path_cmp (path_of (get_or (entries_of bs) (start_of bs i) e))) (first_at bs j d e ordered.none_empty h)
      ∙ rises (entries_of bs) ordered.in_order (start_of bs i) (start_of bs j) e (omega arith) (omega arith)

  not_higher_before : (b : Vec (Entry V) Global) (bs : List (Vec (Entry V) Global)) (p : Path) (d : Vec (Entry V) Global) (i : ℕ) → 0 < i → ((k : ℕ) → k < i → path_cmp (first_entry_path (get_or bs k d).items) p ≡ Less)
      → is_gt (path_cmp (first_entry_path (get_or (b ∷ bs) i d).items) p) ≡ false
  not_higher_before b bs p d zero some low = absurd (omega arith)
  not_higher_before b bs p d (suc k) some low = ap is_gt (low k (omega arith))

  -- where a search among the first paths of the later blocks ends
  pub block_found : (b : Vec (Entry V) Global) (bs : List (Vec (Entry V) Global)) → AreOrderedBlocks (b ∷ bs) → (p : Path) (r : Result ℕ ℕ) → IsSearchInRange r (length bs)
      → IsBinarySearchResult (λ x. path_cmp (first_entry_path x.items) p) bs r → IfOk r (λ i. IsBlockFor p (b ∷ bs) (suc i)) × IfErr r (IsBlockFor p (b ∷ bs))
  block_found b bs ordered p (Ok i) range equal = (
    record {
      in_range = omega arith;
      not_higher = λ d h. ap is_gt (equal d);
      next_higher = λ d h. higher p (first_entry_path (get_or (b ∷ bs) (suc i + 1) d).items)
          (ap (λ q. path_cmp q (first_entry_path (get_or (b ∷ bs) (suc i + 1) d).items)) (sym (path_cmp-IsAntisymmetric _ _ (equal d)))
          ∙ firsts_rise (b ∷ bs) ordered (suc i) (suc i + 1) d (omega arith) h);
    },
    tt,
  )
  block_found b bs ordered p (Err i) range found =
      let later : AreOrderedBlocks bs = record { in_order = back_in_order b.items (entries_of bs) ordered.in_order; none_empty = ordered.none_empty.1 } in
      let halves = found (searchable_from_sorted path_cmp_total (λ x. first_entry_path x.items) bs p
      (λ k d low high. ap is_lt (higher (first_entry_path (get_or bs k d).items) (first_entry_path (get_or bs (k + 1) d).items) (firsts_rise bs later k (k + 1) d (omega arith) high)))) in (
        tt,
        record {
          in_range = omega arith;
          not_higher = λ d h. not_higher_before b bs p d i h (λ k low. halves.0 k d (omega arith) low);
          next_higher = λ d h. let next : i + 1 ≡ suc i = omega arith in rw next (halves.1 i d (omega arith) (omega arith));
        },
      )

  -- a path that is higher than all of the last block is for this block
  pub last_block : (bs : List (Vec (Entry V) Global)) → AreOrderedBlocks bs → (p : Path) (k : ℕ) (b : Vec (Entry V) Global) (e : Entry V) → k + 1 ≡ length bs
      → IsGapFor p (get_or bs k b).items (length (get_or bs k b).items) → IsBlockFor p bs k
  last_block bs ordered p k b e is gap =
      let range : k < length bs = omega (arith, is) in
      record {
        in_range = range;
        not_higher = λ d h.
            let some = some_at bs k d ordered.none_empty range in
            let same = subst (λ x. IsGapFor p x.items (length x.items)) (get_or_default bs k b d range) gap in
            ap (λ q. is_gt (path_cmp q p)) (first_is (get_or bs k d).items e some) ∙ ap is_gt (same.lower_before 0 e (omega arith) some);
        next_higher = λ d h. absurd (omega (arith, is, h));
      }

  module _ (bs : List (Vec (Entry V) Global)) (ordered : AreOrderedBlocks bs) (p : Path) where
    -- the entries before the block are lower
    lower_part : (k : ℕ) (d : Vec (Entry V) Global) → IsBlockFor p bs k → (i : ℕ) (e : Entry V) → i < start_of bs k → path_cmp (path_of (get_or (entries_of bs) i e)) p ≡ Less
    lower_part zero d at i e h = absurd (omega arith)
    lower_part (suc k) d at i e h =
        let some = some_at bs (suc k) d ordered.none_empty at.in_range in
        let fits = start_fits bs (suc k) d at.in_range in
        below_not_higher _ (path_of (get_or (entries_of bs) (start_of bs (suc k)) e)) p
        (rises (entries_of bs) ordered.in_order i (start_of bs (suc k)) e h (omega arith))
        (ap (λ q. is_gt (path_cmp q p)) (sym (first_at bs (suc k) d e ordered.none_empty at.in_range)) ∙ at.not_higher d (omega arith))

    -- the entries after it are higher
    upper_part : (k : ℕ) (d : Vec (Entry V) Global) → IsBlockFor p bs k → (i : ℕ) (e : Entry V) → start_of bs (k + 1) ≤ i → i < length (entries_of bs) → path_cmp (path_of (get_or (entries_of bs) i e)) p ≡ Greater
    upper_part k d at i e h range = by_place (k + 1) (length bs) with_next (λ m is. absurd (let end = start_end bs (k + 1) (omega arith) in omega arith))
      where
        with_next : k + 1 < length bs → path_cmp (path_of (get_or (entries_of bs) i e)) p ≡ Greater
        with_next next =
            let first = first_at bs (k + 1) d e ordered.none_empty next in
            let above : path_cmp p (path_of (get_or (entries_of bs) (start_of bs (k + 1)) e)) ≡ Less = ap (path_cmp p) (sym first) ∙ lower (first_entry_path (get_or bs (k + 1) d).items) p (at.next_higher d next) in
            by_place (start_of bs (k + 1)) i
            (λ lt. higher p _ (path_cmp_total.trans p _ _ above (rises (entries_of bs) ordered.in_order (start_of bs (k + 1)) i e lt range)))
            (λ m is. let same : i ≡ start_of bs (k + 1) = omega arith in higher p _ (ap (λ n. path_cmp p (path_of (get_or (entries_of bs) n e))) same ∙ above))

    -- the place that was found in the block is one in the whole
    pub position_for : (k : ℕ) (b : Vec (Entry V) Global) → IsBlockFor p bs k → (r : Result ℕ ℕ) → IfOk r (IsPlaceOf p (get_or bs k b).items) → IfErr r (IsGapFor p (get_or bs k b).items) → IsPositionFor p bs k r
    position_for k b at (Ok j) place gap =
        let fits = start_fits bs k b at.in_range in
        record {
          in_range = at.in_range;
          in_block = λ d. (subst (λ x. j < length x.items) (get_or_default bs k b d at.in_range) place.in_range, tt);
          place = record {
            in_range = let low = place.in_range in omega arith;
            has_path = λ e. ap path_of (get_at_flat bs k j b e at.in_range place.in_range) ∙ place.has_path e;
          };
          gap = tt;
        }
    position_for k b at (Err j) place gap =
        let fits = start_fits bs k b at.in_range in
        let within = gap.in_range in
        let next = start_next bs k b at.in_range in
        let here : (m : ℕ) (e : Entry V) → m < length (get_or bs k b).items → (i : ℕ) → i ≡ start_of bs k + m → path_cmp (path_of (get_or (entries_of bs) i e)) p ≡ path_cmp (path_of (get_or (get_or bs k b).items m e)) p
        = λ m e h i is. ap (λ n. path_cmp (path_of (get_or (entries_of bs) n e)) p) is ∙ ap (λ x. path_cmp (path_of x) p) (get_at_flat bs k m b e at.in_range h) in
        record {
          in_range = at.in_range;
          in_block = λ d. (tt, subst (λ x. j ≤ length x.items) (get_or_default bs k b d at.in_range) gap.in_range);
          place = tt;
          gap = record {
            in_range = omega arith;
            lower_before = λ i e low high. by_place i (start_of bs k)
                (λ h. lower_part k b at i e h)
                (λ m is. here m e (omega arith) i is ∙ gap.lower_before m e (omega arith) (omega arith));
            higher_after = λ i e low high. by_place i (start_of bs (k + 1))
                (λ h. by_place i (start_of bs k) (λ g. absurd (omega arith)) (λ m is. here m e (omega arith) i is ∙ gap.higher_after m e (omega arith) (omega arith)))
                (λ m is. upper_part k b at i e (omega arith) high);
          };
        }

  -- ---- the map of the entries

  pub len_of : (es : List (Entry V)) → IsInOrder es → length es ≡ len (from_sorted {R = path_cmp} (map pair_of es))
  len_of es h = len_is es (from_sorted (map pair_of es)) (sym (entries-from_sorted path_cmp (map pair_of es) h))

  -- an entry of a block, in the whole
  pub entry_is : (bs : List (Vec (Entry V) Global)) (k j : ℕ) (b : Vec (Entry V) Global) (e : Entry V) → k < length bs → b ≡ get_or bs k b → j < length (get_or bs k b).items → e ≡ get_or b.items j e
      → e ≡ get_or (entries_of bs) (start_of bs k + j) e
  entry_is bs k j b e h is within at = at ∙ ap (λ x. get_or x.items j e) is ∙ sym (get_at_flat bs k j b e h within)

  -- where a missing path would go, among all entries
  pub gap_of : (bs : List (Vec (Entry V) Global)) (p : Path) (gap : Option (ℕ × ℕ)) → HasNoEntry p bs gap → IsGapFor p (entries_of bs) (place_of bs gap)
  gap_of bs p None none = subst (λ l. IsGapFor p (entries_of l) 0) (sym none)
      (record { in_range = omega arith; lower_before = λ k d low high. absurd (omega arith); higher_after = λ k d low high. absurd (omega arith) })
  gap_of bs p (Some position) at = at.gap

  pub get_missing : (bs : List (Vec (Entry V) Global)) → AreOrderedBlocks bs → (p : Path) (gap : Option (ℕ × ℕ)) → HasNoEntry p bs gap → None ≡ get (from_sorted {R = path_cmp} (map pair_of (entries_of bs))) p
  get_missing bs ordered p gap missing = get_in_gap (entries_of bs) ordered.in_order p (place_of bs gap) (gap_of bs p gap missing)
