-- The first of several elements that passes a test.
use Rattle.std.proofs.Common.{◌≡◌, ℕ, ◌+◌, ◌<◌, List, ◌∷◌, length, drop, get_or, map, Bool, true, false, cond, Some, ap, sym, ◌∙◌}
use Rattle.std.specs.List.{find}
use Rattle.std.proofs.lemmas.List.{drop_more}

module _ {X Y : Type 0} (test : Y → Bool) (f : X → Y) (xs : List X) (i : ℕ) (x : X) where
  by_test : (b : Bool) → test (f x) ≡ b → i < length xs → x ≡ get_or xs i x
      → find test (map f (drop i xs)) ≡ cond b (Some (f x)) (find test (map f (drop (i + 1) xs)))
  by_test b e within is =
      ap (λ ys. find test (map f ys)) (drop_more xs i x within ∙ ap (λ y. y ∷ drop (i + 1) xs) (sym is))
      ∙ ap (λ t. cond t (Some (f x)) (find test (map f (drop (i + 1) xs)))) e

  -- the one at this place passes
  pub found_here : i < length xs → x ≡ get_or xs i x → test (f x) ≡ true → find test (map f (drop i xs)) ≡ Some (f x)
  found_here within is e = by_test true e within is

  -- the one at this place doesn't
  pub found_later : i < length xs → x ≡ get_or xs i x → test (f x) ≡ false → find test (map f (drop i xs)) ≡ find test (map f (drop (i + 1) xs))
  found_later within is e = by_test false e within is
