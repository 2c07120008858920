-- The order of two paths whose first different bytes are of names.
use Rattle.std.proofs.Common.{◌≡◌, ◌≢◌, ℕ, suc, ◌+◌, ◌-◌, ◌<◌, ◌≤◌, List, [], ◌∷◌, ◌++◌, length, get_or, take, drop, Bool, true, false, cond, Ordering, Less, Equal, Greater, refl, sym, ap, ◌∙◌, arith, nat_eq, append_assoc, drop-cons, get_or-drop}
use Rattle.std.specs.List.{onto_first, flat_map, common_prefix_len, AllByRecursion}
use Rattle.std.specs.Ordering.{nat_cmp, ordering_then}
use Rattle.std.specs.Cmp.Lexicographic.{slice_cmp}
use Rattle.std.specs.FinMap.{nat_cmp-IsAntisymmetric}
use Rattle.std.proofs.lemmas.Bool.{eq-eqb}
use Rattle.std.proofs.lemmas.Cmp.{nat_cmp_total}
use Rattle.std.proofs.lemmas.List.{take-append-drop, drop-take, get_or-take, length-drop}
use Rattle.cck_path.specs.Path.{Path, Name, parts, part_components, inner_components, components, path_cmp}
use Rattle.cck_path.proofs.CommonPrefixLemmas.{order_after, same_prefix}
use Rattle.cck_path.proofs.OrderLemmas.{reflexive}
use Rattle.cck_path.proofs.PartLemmas.{no_slash_before}

-- a text that begins without a slash has a first part that begins so
first_part : (w s : List ℕ) → AllByRecursion (λ c. nat_eq c 47 ≡ false) w → (p : List ℕ) × (ps : List (List ℕ)) × (parts (w ++ s) ≡ (w ++ p) ∷ ps)
first_part [] [] h = ([], [], refl)
first_part [] (c ∷ s) h =
    let more = first_part [] s tt in
    elim (nat_eq c 47) as (λ b. (p : List ℕ) × (ps : List (List ℕ)) × (cond b ([] ∷ parts s) (onto_first c (parts s)) ≡ p ∷ ps)) [
      | true ↦ ([], parts s, refl)
      | false ↦ (c ∷ more.0, more.1, ap (onto_first c) more.2)
    ]
first_part (c ∷ w) s h =
    let more = first_part w s h.1 in
    (more.0, more.1, ap (λ b. cond b ([] ∷ parts (w ++ s)) (onto_first c (parts (w ++ s)))) h.0 ∙ ap (onto_first c) more.2)

-- a part that does not begin with a dot is a name
named : (c : ℕ) (p : List ℕ) → nat_eq c 46 ≡ false → part_components (c ∷ p) ≡ Name (c ∷ p) ∷ []
named c [] e = rw e refl
named c (d ∷ []) e = rw e refl
named c (d ∷ f ∷ s) e = refl

first_name : (w s : List ℕ) → AllByRecursion (λ c. nat_eq c 47 ≡ false) w → 0 < length w → nat_eq (get_or w 0 0) 46 ≡ false → (p : List ℕ) × (r : Path) × (inner_components (w ++ s) ≡ Name (w ++ p) ∷ r)
first_name [] s h some e = absurd (omega arith)
first_name (c ∷ w) s h some e =
    let first = first_part (c ∷ w) s h in
    (first.0, flat_map part_components first.1, ap (flat_map part_components) first.2 ∙ ap (λ l. l ++ flat_map part_components first.1) (named c (w ++ first.0) e))

decided : (o more : Ordering) → o ≢ Equal → ordering_then o more ≡ o
decided Less more h = refl
decided Equal more h = absurd (h refl)
decided Greater more h = refl

-- texts are ordered by their first different bytes
first_different : (w s t : List ℕ) (x y : ℕ) → x ≢ y → slice_cmp nat_cmp (w ++ x ∷ s) (w ++ y ∷ t) ≡ nat_cmp x y
first_different [] s t x y other = decided (nat_cmp x y) (slice_cmp nat_cmp s t) (λ e. other (nat_cmp-IsAntisymmetric x y e))
first_different (c ∷ w) s t x y other = ap (λ o. ordering_then o (slice_cmp nat_cmp (w ++ x ∷ s) (w ++ y ∷ t))) (reflexive (nat_cmp c c) (nat_cmp_total.antisymm c c)) ∙ first_different w s t x y other

with_one : (w : List ℕ) (x : ℕ) → AllByRecursion (λ c. nat_eq c 47 ≡ false) w → nat_eq x 47 ≡ false → AllByRecursion (λ c. nat_eq c 47 ≡ false) (w ++ x ∷ [])
with_one [] x h e = (e, tt)
with_one (c ∷ w) x h e = (h.0, with_one w x h.1 e)

some_with : (w : List ℕ) (x : ℕ) → 0 < length (w ++ x ∷ [])
some_with [] x = omega arith
some_with (c ∷ w) x = omega arith

head_with : (w s : List ℕ) (x : ℕ) → get_or (w ++ x ∷ []) 0 0 ≡ get_or (w ++ x ∷ s) 0 0
head_with [] s x = refl
head_with (c ∷ w) s x = refl

-- a text whose first part is no `.` or `..` up to a byte begins with a name that has this byte
name_with : (w s : List ℕ) (x : ℕ) → AllByRecursion (λ c. nat_eq c 47 ≡ false) w → nat_eq x 47 ≡ false → nat_eq (get_or (w ++ x ∷ s) 0 0) 46 ≡ false
    → (p : List ℕ) × (r : Path) × (inner_components (w ++ x ∷ s) ≡ Name (w ++ x ∷ p) ∷ r)
name_with w s x h other dot =
    let first = first_name (w ++ x ∷ []) s (with_one w x h other) (some_with w x) (ap (λ c. nat_eq c 46) (head_with w s x) ∙ dot) in
    (first.0, first.1, ap inner_components (sym (append_assoc w (x ∷ []) s)) ∙ first.2 ∙ ap (λ n. Name n ∷ first.1) (append_assoc w (x ∷ []) first.0))

-- two texts that begin alike with a name, and differ in a byte of it
pub names_in_order : (w s t : List ℕ) (x y : ℕ) → AllByRecursion (λ c. nat_eq c 47 ≡ false) w → nat_eq x 47 ≡ false → nat_eq y 47 ≡ false
    → nat_eq (get_or (w ++ x ∷ s) 0 0) 46 ≡ false → nat_eq (get_or (w ++ y ∷ t) 0 0) 46 ≡ false → x ≢ y
    → path_cmp (inner_components (w ++ x ∷ s)) (inner_components (w ++ y ∷ t)) ≡ nat_cmp x y
names_in_order w s t x y h no_x no_y dot_x dot_y other =
    let u = name_with w s x h no_x dot_x in
    let v = name_with w t y h no_y dot_y in
    ap (λ p. path_cmp p (inner_components (w ++ y ∷ t))) u.2
    ∙ ap (λ p. path_cmp (Name (w ++ x ∷ u.0) ∷ u.1) p) v.2
    ∙ ap (λ o. ordering_then o (path_cmp u.1 v.1)) (first_different (2 ∷ w) u.0 v.0 x y other)
    ∙ decided (nat_cmp x y) (path_cmp u.1 v.1) (λ e. other (nat_cmp-IsAntisymmetric x y e))

-- the bytes after the common beginning differ
differ_at : (a b : List ℕ) → common_prefix_len nat_eq a b < length a → common_prefix_len nat_eq a b < length b
    → get_or a (common_prefix_len nat_eq a b) 0 ≢ get_or b (common_prefix_len nat_eq a b) 0
differ_at [] b in_a in_b = absurd (omega arith)
differ_at (x ∷ a) [] in_a in_b = absurd (omega arith)
differ_at (x ∷ a) (y ∷ b) in_a in_b = by_test (nat_eq x y) refl in_a in_b (differ_at a b)
  where
    by_test : (t : Bool) → nat_eq x y ≡ t → cond t (1 + common_prefix_len nat_eq a b) 0 < suc (length a) → cond t (1 + common_prefix_len nat_eq a b) 0 < suc (length b)
        → (common_prefix_len nat_eq a b < length a → common_prefix_len nat_eq a b < length b → get_or a (common_prefix_len nat_eq a b) 0 ≢ get_or b (common_prefix_len nat_eq a b) 0)
        → get_or (x ∷ a) (cond t (1 + common_prefix_len nat_eq a b) 0) 0 ≢ get_or (y ∷ b) (cond t (1 + common_prefix_len nat_eq a b) 0) 0
    by_test true e la lb more = let next : 1 + common_prefix_len nat_eq a b ≡ suc (common_prefix_len nat_eq a b) = omega arith in rw next (more (omega arith) (omega arith))
    by_test false e la lb more = λ same. let yes = eq-eqb x y same in absurd cc

split_at : (s : List ℕ) (m : ℕ) → m < length s → s ≡ take m s ++ get_or s m 0 ∷ drop (suc m) s
split_at s m within = sym (take-append-drop m s) ∙ ap (λ r. take m s ++ r) (drop-cons s m 0 within)

-- the order of two paths that are the same up to a byte of a name is that of these bytes
pub order_at : (a b : List ℕ) (n k : ℕ) → k ≡ common_prefix_len nat_eq a b → n < k → nat_eq (get_or (take k a) n 0) 47 ≡ true
    → ((i : ℕ) → n + 1 ≤ i → i < k → nat_eq (get_or (take k a) i 0) 47 ≡ false)
    → k < length a → k < length b → nat_eq (get_or a k 0) 47 ≡ false → nat_eq (get_or b k 0) 47 ≡ false
    → nat_eq (get_or a (n + 1) 0) 46 ≡ false → nat_eq (get_or b (n + 1) 0) 46 ≡ false
    → nat_cmp (get_or a k 0) (get_or b k 0) ≡ path_cmp (components a) (components b)
order_at a b n k is below slash none in_a in_b no_a no_b dot_a dot_b =
    let m = k - (n + 1) in
    let whole : n + 1 + m ≡ k = omega arith in
    let u = drop (n + 1) a in
    let v = drop (n + 1) b in
    let w = take m u in
    let x = get_or u m 0 in
    let y = get_or v m 0 in
    let in_u : m < length u = omega (arith, length-drop (n + 1) a) in
    let in_v : m < length v = omega (arith, length-drop (n + 1) b) in
    let x_is : x ≡ get_or a k 0 = get_or-drop (n + 1) a m 0 ∙ ap (λ i. get_or a i 0) whole in
    let y_is : y ≡ get_or b k 0 = get_or-drop (n + 1) b m 0 ∙ ap (λ i. get_or b i 0) whole in
    let alike : take m v ≡ w = sym (drop-take (n + 1) m b) ∙ ap (λ j. drop (n + 1) (take j b)) whole ∙ ap (drop (n + 1)) (sym (same_prefix a b k (omega (arith, is))))
    ∙ sym (ap (λ j. drop (n + 1) (take j a)) whole) ∙ drop-take (n + 1) m a in
    let u_is : u ≡ w ++ x ∷ drop (suc m) u = split_at u m in_u in
    let v_is : v ≡ w ++ y ∷ drop (suc m) v = split_at v m in_v ∙ ap (λ l. l ++ y ∷ drop (suc m) v) alike in
    let no_slash : AllByRecursion (λ c. nat_eq c 47 ≡ false) w = no_slash_before u m (omega arith) (λ i lt.
    ap (λ c. nat_eq c 47) (get_or-drop (n + 1) a i 0 ∙ sym (get_or-take k a (n + 1 + i) 0 (omega arith))) ∙ none (n + 1 + i) (omega arith) (omega arith)) in
    let first_a : get_or u 0 0 ≡ get_or a (n + 1) 0 = get_or-drop (n + 1) a 0 0 ∙ ap (λ i. get_or a i 0) (omega arith) in
    let first_b : get_or v 0 0 ≡ get_or b (n + 1) 0 = get_or-drop (n + 1) b 0 0 ∙ ap (λ i. get_or b i 0) (omega arith) in
    let other : x ≢ y = λ e. differ_at a b (omega (arith, is)) (omega (arith, is)) (ap (λ i. get_or a i 0) (sym is) ∙ sym x_is ∙ e ∙ y_is ∙ ap (λ i. get_or b i 0) is) in
    ap (λ c. nat_cmp c (get_or b k 0)) (sym x_is) ∙ ap (nat_cmp x) (sym y_is)
    ∙ sym (names_in_order w (drop (suc m) u) (drop (suc m) v) x y no_slash (ap (λ c. nat_eq c 47) x_is ∙ no_a) (ap (λ c. nat_eq c 47) y_is ∙ no_b)
    (ap (λ l. nat_eq (get_or l 0 0) 46) (sym u_is) ∙ ap (λ c. nat_eq c 46) first_a ∙ dot_a)
    (ap (λ l. nat_eq (get_or l 0 0) 46) (sym v_is) ∙ ap (λ c. nat_eq c 46) first_b ∙ dot_b) other)
    ∙ ap (λ l. path_cmp (inner_components l) (inner_components (w ++ y ∷ drop (suc m) v))) (sym u_is)
    ∙ ap (λ l. path_cmp (inner_components u) (inner_components l)) (sym v_is)
    ∙ order_after a b n k is below slash
