-- The order of two paths that begin with the same bytes.
use Rattle.std.proofs.Common.{◌≡◌, ℕ, zero, suc, ◌+◌, ◌<◌, ◌≤◌, List, [], ◌∷◌, ◌++◌, length, get_or, take, drop, Bool, true, false, cond, Equal, refl, sym, ap, ◌∙◌, arith, nat_eq}
use Rattle.std.specs.List.{common_prefix_len}
use Rattle.std.proofs.lemmas.Bool.{eq-eqb, eqb-true}
use Rattle.std.proofs.lemmas.List.{take-append-drop, get_or-take}
use Rattle.std.proofs.lemmas.List.Sums.{common_prefix_len-le}
use Rattle.std.proofs.Math.Seq.{take-length}
use Rattle.cck_path.specs.Path.{components, inner_components, path_cmp}
use Rattle.cck_path.specs.Text.{ends_in_slash}
use Rattle.cck_path.proofs.JoinLemmas.{components_ended}
use Rattle.cck_path.proofs.OrderLemmas.{path_cmp-same, path_cmp-append}

-- the bytes within the common length are the same
pub same_prefix : (a b : List ℕ) (n : ℕ) → n ≤ common_prefix_len nat_eq a b → take n a ≡ take n b
same_prefix a b zero h = refl
same_prefix [] b (suc n) h = absurd (omega arith)
same_prefix (x ∷ a) [] (suc n) h = absurd (omega arith)
same_prefix (x ∷ a) (y ∷ b) (suc n) h = by_test (nat_eq x y) refl h (same_prefix a b n)
  where
    by_test : (t : Bool) → nat_eq x y ≡ t → suc n ≤ cond t (1 + common_prefix_len nat_eq a b) 0 → (n ≤ common_prefix_len nat_eq a b → take n a ≡ take n b) → x ∷ take n a ≡ y ∷ take n b
    by_test true e le more = ap (λ c. c ∷ take n a) (eqb-true x y e) ∙ ap (λ s. y ∷ s) (more (omega arith))
    by_test false e le more = absurd (omega arith)

-- the common length is that of equal beginnings, and then that of what follows them
pub same_front : (n : ℕ) (a b : List ℕ) → n ≤ length a → n ≤ length b → take n a ≡ take n b → common_prefix_len nat_eq a b ≡ n + common_prefix_len nat_eq (drop n a) (drop n b)
same_front zero a b in_a in_b e = omega arith
same_front (suc n) [] b in_a in_b e = absurd (omega arith)
same_front (suc n) (x ∷ a) [] in_a in_b e = absurd (omega arith)
same_front (suc n) (x ∷ a) (y ∷ b) in_a in_b e =
    let more = same_front n a b (omega arith) (omega arith) (ap (drop 1) e) in
    ap (λ t. cond t (1 + common_prefix_len nat_eq a b) 0) (eq-eqb x y (ap (λ s. get_or s 0 0) e)) ∙ omega (arith, more)

ends_cons : (c : ℕ) (s : List ℕ) → ends_in_slash s ≡ true → ends_in_slash (c ∷ s) ≡ true
ends_cons c [] e = cc
ends_cons c (d ∷ s) e = e

-- a text up to and with a slash ends in a slash
ends_up_to : (s : List ℕ) (n : ℕ) → n < length s → nat_eq (get_or s n 0) 47 ≡ true → ends_in_slash (take (n + 1) s) ≡ true
ends_up_to [] n h e = absurd (omega arith)
ends_up_to (c ∷ s) zero h e = e
ends_up_to (c ∷ s) (suc n) h e = let next : suc n + 1 ≡ suc (n + 1) = omega arith in rw next (ends_cons c (take (n + 1) s) (ends_up_to s n (omega arith) e))

-- the components of a beginning that ends in a slash, and those after it
components_parted : (p s : List ℕ) → ends_in_slash p ≡ true → components (p ++ s) ≡ components p ++ inner_components s
components_parted [] s e = cc
components_parted (c ∷ p) s e = components_ended c p s e

parted_at : (s : List ℕ) (n : ℕ) → n < length s → nat_eq (get_or s n 0) 47 ≡ true → components s ≡ components (take (n + 1) s) ++ inner_components (drop (n + 1) s)
parted_at s n h e = ap components (sym (take-append-drop (n + 1) s)) ∙ components_parted (take (n + 1) s) (drop (n + 1) s) (ends_up_to s n h e)

-- the order of two paths that are the same up to a slash is that of what follows the slash
pub order_after : (a b : List ℕ) (n k : ℕ) → k ≡ common_prefix_len nat_eq a b → n < k → nat_eq (get_or (take k a) n 0) 47 ≡ true
    → path_cmp (inner_components (drop (n + 1) a)) (inner_components (drop (n + 1) b)) ≡ path_cmp (components a) (components b)
order_after a b n k is below slash =
    let within = common_prefix_len-le nat_eq a b in
    let in_a : n < length a = omega (arith, within.0) in
    let in_b : n < length b = omega (arith, within.1) in
    let slash_a : nat_eq (get_or a n 0) 47 ≡ true = ap (λ x. nat_eq x 47) (sym (get_or-take k a n 0 below)) ∙ slash in
    let slash_b : nat_eq (get_or b n 0) 47 ≡ true = ap (λ x. nat_eq x 47) (sym (get_or-take k b n 0 below)) ∙ ap (λ s. nat_eq (get_or s n 0) 47) (sym (same_prefix a b k (omega arith))) ∙ slash in
    let front : components (take (n + 1) a) ≡ components (take (n + 1) b) = ap components (same_prefix a b (n + 1) (omega arith)) in
    sym (
    ap (λ p. path_cmp p (components b)) (parted_at a n in_a slash_a)
    ∙ ap (λ p. path_cmp (components (take (n + 1) a) ++ inner_components (drop (n + 1) a)) p) (parted_at b n in_b slash_b)
    ∙ ap (λ p. path_cmp (p ++ inner_components (drop (n + 1) a)) (components (take (n + 1) b) ++ inner_components (drop (n + 1) b))) front
    ∙ path_cmp-append (components (take (n + 1) b)) (inner_components (drop (n + 1) a)) (inner_components (drop (n + 1) b)))

-- paths of the same bytes are equal
pub same_bytes : (a b : List ℕ) (k : ℕ) → k ≡ common_prefix_len nat_eq a b → k ≡ length a → k ≡ length b → path_cmp (components a) (components b) ≡ Equal
same_bytes a b k is in_a in_b =
    let same : a ≡ b = sym (take-length a) ∙ ap (λ n. take n a) (sym in_a) ∙ same_prefix a b k (omega arith) ∙ ap (λ n. take n b) in_b ∙ take-length b in
    ap (λ s. path_cmp (components s) (components b)) same ∙ path_cmp-same (components b)
