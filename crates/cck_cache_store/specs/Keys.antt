-- keys of signatures
use Rattle.std.specs.Prelude.{◌≡◌, ◌≤◌, ◌<◌, ◌⊎◌, ℕ, List, ◌++◌, Option, Some, None, codes, length}

-- the key that a file of these bytes has: they without a line feed at their end
abbrev pub IsKeyIn : List ℕ → List ℕ → Type 0
IsKeyIn bytes key = (bytes ≡ key ++ codes "\n") ⊎ ((bytes ≡ key) × ((k : List ℕ) → bytes ≡ k ++ codes "\n" → ⊥))

-- the key of signatures that a file of these bytes has, or none where it is shorter than 16 bytes
abbrev pub IsSigningKey : List ℕ → Option (List ℕ) → Type 0
IsSigningKey bytes (Some key) = IsKeyIn bytes key × (16 ≤ length key)
IsSigningKey bytes None = (key : List ℕ) → IsKeyIn bytes key → length key < 16
