-- what remains of a text, written to a buffer
use Rattle.std.specs.Prelude.{◌≡◌, ◌<◌, ◌++◌, ℕ, List, length, drop, Option, Some, None}

-- Nothing is cut, and the buffer is as before. Or what remains is at the start of the buffer, shorter
-- than the text, and the rest of the buffer is as before.
abbrev pub IsWritten : List ℕ → List ℕ → List ℕ → List ℕ → Option ℕ → Type 0
IsWritten kept text old new None = (kept ≡ text) × (new ≡ old)
IsWritten kept text old new (Some n) = (n ≡ length kept) × (n < length text) × (new ≡ kept ++ drop n old)
