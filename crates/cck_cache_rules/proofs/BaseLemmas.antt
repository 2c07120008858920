-- Paths below a base directory, and portable words.
use Rattle.std.proofs.Common.{◌≡◌, ◌≢◌, ℕ, inl, inr, Bool, List, Some, [], ◌++◌, codes, append_assoc, sym, ap, subst, ◌∙◌}
use Rattle.std.specs.Bool.{Decides}
use Rattle.std.proofs.lemmas.List.{append-nil, append_cancel_left}
use Rattle.cck_cache_rules.specs.Argument.{Begins}
use Rattle.cck_cache_rules.specs.Base.{ArePortable, IsBelow, WordLists}

-- a path with this after the base directory
module _ (path base rest : List ℕ) (begins : path ≡ base ++ rest) where
  pub nothing_after : rest ≡ [] → IsBelow path base
  nothing_after none = inl (begins ∙ (ap (λ x. base ++ x) none ∙ append-nil base))

  pub below_decided : (r : Bool) → rest ≢ [] → Decides r (Begins rest (codes "/")) → Decides r (IsBelow path base)
  below_decided r some slash = (
    λ q. let on = slash.0 q in inr (on.0, begins ∙ (ap (λ x. base ++ x) on.1 ∙ sym (append_assoc base (codes "/") on.0))),
    λ below. elim below [
      | inl same ↦ absurd (some (append_cancel_left base rest [] (sym begins ∙ (same ∙ sym (append-nil base)))))
      | inr on ↦ slash.1 (on.0, append_cancel_left base rest (codes "/" ++ on.0) (sym begins ∙ (on.1 ∙ append_assoc base (codes "/") on.0)))
    ],
  )

-- a path that does not begin with it
pub not_below : (path base : List ℕ) → ((rest : List ℕ) → path ≢ base ++ rest) → ¬ IsBelow path base
not_below path base other (inl same) = other [] (same ∙ sym (append-nil base))
not_below path base other (inr on) = other (codes "/" ++ on.0) (on.1 ∙ append_assoc base (codes "/") on.0)

-- the base directory of words is the one that was given
pub base_is : (words : WordLists) (base other : List ℕ) → words.base ≡ Some base → ArePortable words other → ArePortable words base
base_is words base other given are =
    let same : other ≡ base = let both : Some other ≡ Some base = sym are.given ∙ given in cc in
    subst (ArePortable words) same are
