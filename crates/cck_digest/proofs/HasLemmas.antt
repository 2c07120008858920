-- The Boolean function `has` decides whether a word is a part of a text.
use Rattle.std.proofs.Common.{◌≡◌, ℕ, inl, inr, ◌||◌, ◌↔◌, List, [], ◌∷◌, ◌++◌, IsTrue, length, drop, refl, ap, ◌∙◌}
use Rattle.std.proofs.lemmas.Bool.Decides.{Decides-eqb}
use Rattle.std.proofs.lemmas.Slice.Eq.{starts_is}
use Rattle.std.specs.List.{starts_with}
use Rattle.std.specs.Prelude.{nat_eq}
use Rattle.std.proofs.lemmas.Bool.{or_cases, or_right}
use Rattle.cck_digest.specs.TimeMacros.{Has, has}

at_start : (text word : List ℕ) → IsTrue (starts_with nat_eq text word) → Has text word
at_start text word h = ([], drop (length word) text, (starts_is Decides-eqb text word (starts_with nat_eq text word) refl).0 h)

from_start : (text word after : List ℕ) → text ≡ word ++ after → IsTrue (starts_with nat_eq text word)
from_start text word after e = (starts_is Decides-eqb text word (starts_with nat_eq text word) refl).1 after e

has_then : (text word : List ℕ) → IsTrue (has text word) → Has text word
has_then [] word h = at_start [] word h
has_then (byte ∷ text) word h =
    elim (or_cases (starts_with nat_eq (byte ∷ text) word) (has text word) h) [
      | inl here ↦ at_start (byte ∷ text) word here
      | inr later ↦ (let more = has_then text word later in (byte ∷ more.0, more.1, ap (λ s. byte ∷ s) more.2))
    ]

has_here : (text word after : List ℕ) → text ≡ word ++ after → IsTrue (has text word)
has_here [] word after e = from_start [] word after e
has_here (byte ∷ text) word after e = ap (λ b. b || has text word) (from_start (byte ∷ text) word after e)

then_has : (before word after : List ℕ) → IsTrue (has (before ++ (word ++ after)) word)
then_has [] word after = has_here (word ++ after) word after refl
then_has (byte ∷ before) word after =
    or_right (starts_with nat_eq (byte ∷ (before ++ (word ++ after))) word) (has (before ++ (word ++ after)) word) (then_has before word after)

pub has_iff : (text word : List ℕ) → IsTrue (has text word) ↔ Has text word
has_iff text word = (has_then text word, λ h. ap (λ s. has s word) h.2 ∙ then_has h.0 word h.1)
