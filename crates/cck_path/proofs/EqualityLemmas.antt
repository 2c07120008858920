-- The equality tests decide whether two values are equal.
use Rattle.std.proofs.Common.{◌≡◌, ℕ, Bool, List, Option, Some, None, map, refl, sym, ap}
use Rattle.std.specs.Cmp.Derive.Mapped.{pointwise-map}
use Rattle.std.specs.Cmp.Lexicographic.{bytes_decides, pointwise, pointwise_decides}
use Rattle.std.specs.Global.{Vec}
use Rattle.std.specs.Option.{option_eq, option_map}
use Rattle.std.specs.Prelude.{Decides, nat_eq}
use Rattle.std.proofs.lemmas.Bool.Decides.{Decides-and, Decides-at, Decides-eqb, Decides-int_eq, Decides-like}
use Rattle.cck_path.specs.Bytes.{lists_of}
use Rattle.cck_path.specs.Timestamp.{Moment, same_moment}

pub moment_decides : (a b : Moment) → Decides (same_moment a b) (a ≡ b)
moment_decides a b =
    Decides-like (same_moment a b) (λ h. λ i. record { seconds = h.0 i; nanoseconds = h.1 i }) (λ e. (ap (λ (m : Moment). m.seconds) e, ap (λ (m : Moment). m.nanoseconds) e))
    (Decides-and _ _ (Decides-int_eq a.seconds b.seconds) (Decides-eqb a.nanoseconds b.nanoseconds))

-- optional values, and lists of values, by what is seen of each value
module _ {X Y : Type 0} (f : X → Y) (E : Y → Y → Bool) (each : (a b : Y) → Decides (E a b) (a ≡ b)) where
  pub option_decides : (a b : Option X) → Decides (option_eq (λ x y. E (f x) (f y)) a b) (option_map f a ≡ option_map f b)
  option_decides None None = (λ _. refl, λ _. refl)
  option_decides None (Some b) = (λ e. absurd cc, λ e. absurd cc)
  option_decides (Some a) None = (λ e. absurd cc, λ e. absurd cc)
  option_decides (Some a) (Some b) = Decides-like (E (f a) (f b)) (λ e. ap Some e) (λ e. cc) (each (f a) (f b))

  pub list_decides : (a b : List X) → Decides (pointwise (λ x y. E (f x) (f y)) a b) (map f a ≡ map f b)
  list_decides a b = Decides-at _ _ (sym (pointwise-map f E a b)) (pointwise_decides each (map f a) (map f b))

pub time_decides : (a b : Option Moment) → Decides (option_eq same_moment a b) (a ≡ b)
time_decides None None = (λ _. refl, λ _. refl)
time_decides None (Some b) = (λ e. absurd cc, λ e. absurd cc)
time_decides (Some a) None = (λ e. absurd cc, λ e. absurd cc)
time_decides (Some a) (Some b) = Decides-like (same_moment a b) (λ e. ap Some e) (λ e. cc) (moment_decides a b)

pub text_decides : (a b : Option (Vec ℕ)) → Decides (option_eq (λ x y. pointwise nat_eq x.items y.items) a b) (option_map (λ v. v.items) a ≡ option_map (λ v. v.items) b)
text_decides = option_decides (λ (v : Vec ℕ). v.items) (pointwise nat_eq) bytes_decides

pub texts_decide : (a b : List (Vec ℕ)) → Decides (pointwise (λ x y. pointwise nat_eq x.items y.items) a b) (lists_of a ≡ lists_of b)
texts_decide = list_decides (λ (v : Vec ℕ). v.items) (pointwise nat_eq) bytes_decides
