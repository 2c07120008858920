-- sets of byte lists, by the bytes of their keys
use Rattle.std.specs.Prelude.{ℕ, ◌⊎◌, List, IsTrue, Bool}
use Rattle.std.specs.BTreeSet.{BTreeSet}
use Rattle.std.specs.Global.{Vec}
use Rattle.std.specs.List.{list_any}
use Rattle.std.specs.Str.{bytes_eq}

-- whether a key has these bytes
abbrev pub has_key : BTreeSet (Vec ℕ) → List ℕ → Bool
has_key keys bytes = list_any (λ k. bytes_eq bytes k.items) keys.keys

-- the keys are exactly these
abbrev pub IsSetOf : (List ℕ → Type 0) → BTreeSet (Vec ℕ) → Type 0
IsSetOf P keys = (bytes : List ℕ) → (IsTrue (has_key keys bytes) → P bytes) × (P bytes → IsTrue (has_key keys bytes))

-- these were added, and the others are as before
abbrev pub Adds : (List ℕ → Type 0) → BTreeSet (Vec ℕ) → BTreeSet (Vec ℕ) → Type 0
Adds P old new = IsSetOf (λ bytes. P bytes ⊎ IsTrue (has_key old bytes)) new
