-- What tests of lists of bytes say.
use Rattle.std.proofs.Common.{◌≡◌, ℕ, ◌<◌, Bool, true, false, List, [], ◌∷◌, length, map, get_or, drop, nat_eq, refl, sym, subst, ◌∙◌, arith}
use Rattle.std.specs.Bool.{Decides, MatchBool}
use Rattle.std.specs.List.{All, AllWithin, Any, HoldsAt, ends_with, starts_with}
use Rattle.std.proofs.lemmas.Bool.{false≢true}
use Rattle.std.proofs.lemmas.Bool.Decides.{Decides-eqb}
use Rattle.std.proofs.lemmas.List.{get_or-map, length-map}
use Rattle.std.proofs.lemmas.List.Elements.{All-from_all_within, All-map}
use Rattle.std.proofs.lemmas.Slice.Eq.{ends_is, starts_is}
use Rattle.cck_cache_rules.specs.Argument.{Begins, IsEndOf}

pub starts_decided : (text word : List ℕ) (r : Bool) → r ≡ starts_with nat_eq text word → Decides r (Begins text word)
starts_decided text word r e =
    let is = starts_is Decides-eqb text word r e in (λ q. (drop (length word) text, is.0 q), λ (rest, same). is.1 rest same)

pub ends_decided : (text word : List ℕ) (r : Bool) → r ≡ ends_with nat_eq text word → Decides r (IsEndOf text word)
ends_decided text word r e =
    let is = ends_is Decides-eqb text word r e in (λ q. (_, is.0 q), λ (front, same). is.1 front same)

module _ {X : Type 0} (P : List ℕ → Type 0) (f : X → List ℕ) where
  -- a search of a list for a value with a property of its bytes
  pub any_decided : (xs : List X) (r : Bool)
      → MatchBool r ((k : ℕ) × (k < length xs) × HoldsAt (λ x. P (f x)) xs k) (AllWithin (λ x. ¬ P (f x)) xs 0 (length xs))
      → Decides r (Any P (map f xs))
  any_decided [] true (k, within, at) = absurd (omega arith)
  any_decided (x ∷ xs) true (k, within, at) = (
    λ q. (k, f (get_or (x ∷ xs) k x), rw length-map within, get_or-map f (x ∷ xs) k x _ within, at x),
    λ any. refl,
  )
  any_decided [] false none = (λ q. absurd (false≢true q), λ (k, y, within, is, here). absurd (omega arith))
  any_decided (x ∷ xs) false none = (
    λ q. absurd (false≢true q),
    λ (k, y, within, is, here).
        let inside : k < length (x ∷ xs) = rw length-map at within in
        absurd (none k x (omega arith) inside (subst P (sym is ∙ get_or-map f (x ∷ xs) k x y inside) here)),
  )

  -- the same of all values
  pub all_decided : (xs : List X) (r : Bool)
      → MatchBool r (AllWithin (λ x. P (f x)) xs 0 (length xs)) ((k : ℕ) × (k < length xs) × HoldsAt (λ x. ¬ P (f x)) xs k)
      → Decides r (All P (map f xs))
  all_decided xs true all = (λ q. All-map P f xs (All-from_all_within (λ x. P (f x)) xs all), λ every. refl)
  all_decided [] false (k, within, at) = absurd (omega arith)
  all_decided (x ∷ xs) false (k, within, at) = (
    λ q. absurd (false≢true q),
    λ every. absurd (at x (subst P (get_or-map f (x ∷ xs) k x (f x) within) (every k (f x) (rw length-map within)))),
  )
