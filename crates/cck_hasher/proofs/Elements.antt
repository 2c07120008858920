-- Elements of lists.
use Rattle.std.proofs.Common.{◌≡◌, ◌⊎◌, inl, inr, zero, suc, List, [], ◌∷◌, refl, sym, ap, arith, Bool, true, ◌&&◌, ◌∙◌}
use Rattle.std.specs.Prelude.{Contains}
use Rattle.std.specs.List.{list_all}
use Rattle.std.proofs.lemmas.Bool.{and_parts}

pub first_in : {X : Type 0} (x : X) (xs : List X) → Contains (x ∷ xs) x
first_in x xs = (0, omega arith, refl)

pub later_in : {X : Type 0} (x y : X) (xs : List X) → Contains xs y → Contains (x ∷ xs) y
later_in x y xs h = let less = h.1 in (suc h.0, omega (arith, less), h.2)

pub none_in : {X : Type 0} (y : X) → Contains [] y → ⊥
none_in y h = let less = h.1 in omega (arith, less)

pub one_of : {X : Type 0} (x y : X) (xs : List X) → Contains (x ∷ xs) y → (x ≡ y) ⊎ Contains xs y
one_of x y xs (zero, less, is) = inl is
one_of x y xs (suc k, less, is) = inr (k, omega (arith, less), is)

-- the only element
pub only_one : {X : Type 0} (x y : X) → Contains (x ∷ []) y → x ≡ y
only_one x y h = elim (one_of x y [] h) [ inl is ↦ is | inr more ↦ absurd (none_in y more) ]

-- a test that all pass, each passes
pub each_passes : {X : Type 0} (test : X → Bool) (xs : List X) (x : X) → list_all test xs ≡ true → Contains xs x → test x ≡ true
each_passes test [] x h at = absurd (none_in x at)
each_passes test (y ∷ xs) x h at =
    let parts = and_parts (test y) (list_all test xs) h in
    elim (one_of y x xs at) [ inl is ↦ ap test (sym is) ∙ parts.0 | inr more ↦ each_passes test xs x parts.1 more ]

-- and a test that each passes, all pass
pub all_pass : {X : Type 0} (test : X → Bool) (xs : List X) → ((x : X) → Contains xs x → test x ≡ true) → list_all test xs ≡ true
all_pass test [] h = refl
all_pass test (y ∷ xs) h =
    ap (λ b. b && list_all test xs) (h y (first_in y xs)) ∙ all_pass test xs (λ x at. h x (later_in y x xs at))
