-- what words begin with
use Rattle.std.specs.Prelude.{◌≡◌, ℕ, ◌<◌, List, Bool, true, false, length, Contains}
use Rattle.std.proofs.Common.{get_or}
use Rattle.memchr.specs.Find.{OccursAt}

-- all these words are empty
abbrev pub AllEmpty : List (List ℕ) → Type 0
AllEmpty words = (word : List ℕ) → Contains words word → 0 < length word → ⊥

-- all these words begin with these bytes, but for empty ones
abbrev pub AllBegin : List (List ℕ) → List ℕ → Type 0
AllBegin words bytes = (word : List ℕ) → Contains words word → 0 < length word → OccursAt word bytes 0

-- the first byte of each of these words is marked, but for empty ones
abbrev pub FirstsMarked : List (List ℕ) → List Bool → Type 0
FirstsMarked words marks = (word : List ℕ) → Contains words word → 0 < length word → get_or marks (get_or word 0 0) false ≡ true
