-- The architectures that are asked for.
use Rattle.std.proofs.Common.{◌≡◌, ℕ, suc, ◌+◌, ◌<◌, ◌≤◌, List, [], ◌∷◌, ◌++◌, Bool, true, false, not, ◌&&◌, ◌||◌, cond, Some, length, map, take, get_or, refl, sym, ap, ◌∙◌, filter, nat_le, Bor, arith}
use Rattle.std.specs.Global.{Vec}
use Rattle.std.specs.List.{find, list_any}
use Rattle.std.specs.Option.{option_map_or}
use Rattle.std.specs.Str.{bytes_eq}
use Rattle.std.proofs.Math.Bool.{or-false, or-true}
use Rattle.std.proofs.lemmas.Bool.Decides.{nat_tests}
use Rattle.std.proofs.lemmas.List.{append-nil, get_or-map, length-map, map-append, take_all}
use Rattle.std.proofs.lemmas.List.Elements.{filter_more}
use Rattle.std.proofs.lemmas.Map.Views.{any-filter_same}
use Rattle.std.proofs.lemmas.Slice.Eq.{bytes_eq-Decides}
use Rattle.cck_path.specs.Bytes.{Bytes, lists_of}
use Rattle.cck_path.proofs.TestLemmas.{bytes_eq-sym}
use Rattle.cck_compiler.specs.Arguments.{Arguments, archs, each_once, is_arch}

same : (a b : Bytes) → bytes_eq a b ≡ true → a ≡ b
same a b h = (bytes_eq-Decides a b).0 h

itself : (a : Bytes) → bytes_eq a a ≡ true
itself a = (bytes_eq-Decides a a).1 refl

-- one after them: it is added if it isn't among them
pub each_once_more : (xs : List Bytes) (x : Bytes) → each_once (xs ++ x ∷ []) ≡ each_once xs ++ cond (list_any (λ y. bytes_eq y x) (each_once xs)) [] (x ∷ [])
each_once_more [] x = refl
each_once_more (a ∷ xs) x =
    ap (λ ys. a ∷ filter (λ b. not (bytes_eq b a)) ys) (each_once_more xs x)
    ∙ ap (λ ys. a ∷ ys) (without (each_once xs) (list_any (λ y. bytes_eq y x) (each_once xs)))
    ∙ ap (λ t. a ∷ filter (λ b. not (bytes_eq b a)) (each_once xs) ++ t) (by (bytes_eq x a) refl)
  where
    without : (ys : List Bytes) (t : Bool) → filter (λ b. not (bytes_eq b a)) (ys ++ cond t [] (x ∷ []))
        ≡ filter (λ b. not (bytes_eq b a)) ys ++ cond (t || bytes_eq x a) [] (x ∷ [])
    without [] true = refl
    without [] false = elim (bytes_eq x a) as (λ t. cond (not t) (x ∷ []) [] ≡ cond t [] (x ∷ [])) [ true ↦ refl | false ↦ refl ]
    without (y ∷ ys) t =
        ap (λ zs. cond (not (bytes_eq y a)) (y ∷ zs) zs) (without ys t)
        ∙ elim (bytes_eq y a) as (λ u. cond (not u) (y ∷ filter (λ b. not (bytes_eq b a)) ys ++ cond (t || bytes_eq x a) [] (x ∷ [])) (filter (λ b. not (bytes_eq b a)) ys ++ cond (t || bytes_eq x a) [] (x ∷ []))
        ≡ cond (not u) (y ∷ filter (λ b. not (bytes_eq b a)) ys) (filter (λ b. not (bytes_eq b a)) ys) ++ cond (t || bytes_eq x a) [] (x ∷ [])) [ true ↦ refl | false ↦ refl ]

    by : (s : Bool) → bytes_eq x a ≡ s → cond (list_any (λ y. bytes_eq y x) (each_once xs) || bytes_eq x a) [] (x ∷ [])
        ≡ cond (bytes_eq a x || list_any (λ y. bytes_eq y x) (filter (λ b. not (bytes_eq b a)) (each_once xs))) [] (x ∷ [])
    by true is =
        ap (λ u. cond (list_any (λ y. bytes_eq y x) (each_once xs) || u) [] (x ∷ [])) is
        ∙ ap (λ u. cond u [] (x ∷ [])) (or-true (list_any (λ y. bytes_eq y x) (each_once xs)))
        ∙ sym (ap (λ u. cond (u || list_any (λ y. bytes_eq y x) (filter (λ b. not (bytes_eq b a)) (each_once xs))) [] (x ∷ [])) (bytes_eq-sym a x ∙ is))
    by false other =
        ap (λ u. cond (list_any (λ y. bytes_eq y x) (each_once xs) || u) [] (x ∷ [])) other
        ∙ ap (λ u. cond u [] (x ∷ [])) (or-false (list_any (λ y. bytes_eq y x) (each_once xs)))
        ∙ sym (ap (λ u. cond (u || list_any (λ y. bytes_eq y x) (filter (λ b. not (bytes_eq b a)) (each_once xs))) [] (x ∷ [])) (bytes_eq-sym a x ∙ other)
        ∙ ap (λ u. cond u [] (x ∷ [])) (any-filter_same (λ y. bytes_eq y x) (λ b. not (bytes_eq b a)) true
        (λ y at. ap not (ap (λ z. bytes_eq z a) (same y x at) ∙ other)) (each_once xs)))

-- one argument more
pub archs_more : (args : List Bytes) (i : ℕ) (d : Bytes) → i < length args
    → each_once (filter is_arch (take (i + 1) args)) ≡ each_once (filter is_arch (take i args))
    ++ cond (is_arch (get_or args i d) && not (list_any (λ y. bytes_eq y (get_or args i d)) (each_once (filter is_arch (take i args))))) (get_or args i d ∷ []) []
archs_more args i d within = ap each_once (filter_more is_arch args i d within) ∙ by (is_arch (get_or args i d)) (get_or args i d) (filter is_arch (take i args))
  where
    by : (s : Bool) (x : Bytes) (xs : List Bytes) → each_once (xs ++ cond s (x ∷ []) []) ≡ each_once xs ++ cond (s && not (list_any (λ y. bytes_eq y x) (each_once xs))) (x ∷ []) []
    by true x xs = each_once_more xs x ∙ ap (λ t. each_once xs ++ t) (elim (list_any (λ y. bytes_eq y x) (each_once xs)) as (λ u. cond u [] (x ∷ []) ≡ cond (not u) (x ∷ []) []) [ true ↦ refl | false ↦ refl ])
    by false x xs = ap each_once (append-nil xs) ∙ sym (append-nil (each_once xs))

-- some are left exactly where one passes
some_left : (test : Bytes → Bool) (xs : List Bytes) → nat_le 1 (length (filter test xs)) ≡ list_any test xs
some_left test [] = refl
some_left test (x ∷ xs) = by (test x) (some_left test xs)
  where
    by : (s : Bool) → nat_le 1 (length (filter test xs)) ≡ list_any test xs → nat_le 1 (length (cond s (x ∷ filter test xs) (filter test xs))) ≡ (s || list_any test xs)
    by true h = grind (arith, nat_tests)
    by false h = h

-- another one is among them also where each is kept once
some_other : (x : Bytes) (ys : List Bytes) → list_any (λ b. not (bytes_eq b x)) (each_once ys) ≡ list_any (λ b. not (bytes_eq b x)) ys
some_other x [] = refl
some_other x (a ∷ ys) = by (bytes_eq a x) refl (some_other x ys)
  where
    by : (s : Bool) → bytes_eq a x ≡ s → list_any (λ b. not (bytes_eq b x)) (each_once ys) ≡ list_any (λ b. not (bytes_eq b x)) ys
        → (not s || list_any (λ b. not (bytes_eq b x)) (filter (λ b. not (bytes_eq b a)) (each_once ys))) ≡ (not s || list_any (λ b. not (bytes_eq b x)) ys)
    by true is h = any-filter_same (λ b. not (bytes_eq b x)) (λ b. not (bytes_eq b a)) true (λ b at. ap (λ z. not (bytes_eq b z)) (same a x is) ∙ at) (each_once ys) ∙ h
    by false other h = refl

any_of_filter : (p q : Bytes → Bool) (xs : List Bytes) → list_any q (filter p xs) ≡ list_any (λ x. p x && q x) xs
any_of_filter p q [] = refl
any_of_filter p q (x ∷ xs) = by (p x) (any_of_filter p q xs)
  where
    by : (s : Bool) → list_any q (filter p xs) ≡ list_any (λ y. p y && q y) xs → list_any q (cond s (x ∷ filter p xs) (filter p xs)) ≡ ((s && q x) || list_any (λ y. p y && q y) xs)
    by true h = ap (λ t. q x || t) h
    by false h = h

one_less : (n : ℕ) → nat_le 2 (suc n) ≡ nat_le 1 n
one_less n = by (nat_le 1 n) refl
  where
    by : (s : Bool) → nat_le 1 n ≡ s → nat_le 2 (suc n) ≡ s
    by true h = grind (arith, nat_tests)
    by false h = grind (arith, nat_tests)

-- whether another one is among the arguments
abbrev pub has_other : List Bytes → Bytes → Bool
has_other args first = list_any (λ arg. is_arch arg && not (bytes_eq arg first)) args

-- two of them or more: the first, and another one
pub several : (args : List Bytes) → nat_le 2 (length (each_once (filter is_arch args))) ≡ option_map_or (has_other args) (find is_arch args) false
several [] = refl
several (a ∷ args) = by (is_arch a) (several args)
  where
    by : (s : Bool) → nat_le 2 (length (each_once (filter is_arch args))) ≡ option_map_or (has_other args) (find is_arch args) false
        → nat_le 2 (length (each_once (cond s (a ∷ filter is_arch args) (filter is_arch args))))
        ≡ option_map_or (λ first. (s && not (bytes_eq a first)) || has_other args first) (cond s (Some a) (find is_arch args)) false
    by true h =
        one_less (length (filter (λ b. not (bytes_eq b a)) (each_once (filter is_arch args))))
        ∙ some_left (λ b. not (bytes_eq b a)) (each_once (filter is_arch args))
        ∙ some_other a (filter is_arch args)
        ∙ any_of_filter is_arch (λ b. not (bytes_eq b a)) args
        ∙ ap (λ t. not t || has_other args a) (sym (itself a))
    by false h = h

-- at one argument, with what was found before it
module _ (args : List (Vec ℕ)) (i : ℕ) (arg : Vec ℕ) (arch : Bor Bytes) (found : List (Bor Bytes)) (within : i < length args) (at : arg ≡ get_or args i arg) (is : arch.now ≡ arg.items)
    (before : map (λ a. a.now) found ≡ each_once (filter is_arch (take i (lists_of args)))) where
  this : arch.now ≡ get_or (lists_of args) i arch.now
  this = is ∙ ap (λ v. v.items) at ∙ sym (get_or-map (λ (v : Vec ℕ). v.items) args i arg arch.now within)

  any_in : (xs : List (Bor Bytes)) → list_any (λ y. bytes_eq y.now arch.now) xs ≡ list_any (λ y. bytes_eq y arch.now) (map (λ a. a.now) xs)
  any_in [] = refl
  any_in (x ∷ xs) = ap (λ t. bytes_eq x.now arch.now || t) (any_in xs)

  so_far : List Bytes
  so_far = each_once (filter is_arch (take i (lists_of args)))

  after : (s t : Bool) → s ≡ is_arch arch.now → t ≡ list_any (λ y. bytes_eq y.now arch.now) found
      → map (λ a. a.now) found ++ cond (s && not t) (arch.now ∷ []) [] ≡ each_once (filter is_arch (take (i + 1) (lists_of args)))
  unfolding this so_far
  after s t h k =
      ap (λ xs. xs ++ cond (s && not t) (arch.now ∷ []) []) before
      ∙ ap (λ u. so_far ++ cond (u && not t) (arch.now ∷ []) []) h
      ∙ ap (λ u. so_far ++ cond (is_arch arch.now && not u) (arch.now ∷ []) []) (k ∙ any_in found ∙ ap (list_any (λ y. bytes_eq y arch.now)) before)
      ∙ ap (λ x. so_far ++ cond (is_arch x && not (list_any (λ y. bytes_eq y x) so_far)) (x ∷ []) []) this
      ∙ sym (archs_more (lists_of args) i arch.now (rw (length-map) within))

  -- it is an architecture that wasn't found before
  pub arch_added : (all : List (Bor Bytes)) → all ≡ found ++ arch ∷ [] → true ≡ is_arch arch.now → false ≡ list_any (λ y. bytes_eq y.now arch.now) found
      → map (λ a. a.now) all ≡ each_once (filter is_arch (take (i + 1) (lists_of args)))
  arch_added all are h k = ap (map (λ (a : Bor Bytes). a.now)) are ∙ map-append (λ (a : Bor Bytes). a.now) found (arch ∷ []) ∙ after true false h k

  -- it was found before
  pub arch_known : true ≡ is_arch arch.now → true ≡ list_any (λ y. bytes_eq y.now arch.now) found → map (λ a. a.now) found ≡ each_once (filter is_arch (take (i + 1) (lists_of args)))
  arch_known h k = sym (append-nil (map (λ a. a.now) found)) ∙ after true true h k

  -- it is none
  pub arch_none : false ≡ is_arch arch.now → map (λ a. a.now) found ≡ each_once (filter is_arch (take (i + 1) (lists_of args)))
  arch_none h = sym (append-nil (map (λ a. a.now) found)) ∙ after false (list_any (λ y. bytes_eq y.now arch.now) found) h refl

-- at the end
pub archs_all : (a : Arguments) (i : ℕ) (found : List (Bor Bytes)) → length a.arch_args ≤ i → map (λ a. a.now) found ≡ each_once (filter is_arch (take i a.arch_args)) → map (λ a. a.now) found ≡ archs a
unfolding archs
archs_all a i found end h = h ∙ ap (λ xs. each_once (filter is_arch xs)) (take_all i a.arch_args end)
