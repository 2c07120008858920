-- the statuses that an export returns
use Rattle.std.specs.Prelude.{◌≡◌, ◌⊎◌, ℕ, ℤ, pos, List, [], ◌∷◌}

-- the status is one of these
abbrev pub IsOneOf : ℤ → List ℕ → Type 0
IsOneOf status [] = ⊥
IsOneOf status (one ∷ others) = (status ≡ pos one) ⊎ IsOneOf status others
