-- streams that come in pieces
use Rattle.std.specs.Prelude.{◌≡◌, ◌<◌, ◌≤◌, ◌++◌, ℕ, List, All, length, Option}
use Rattle.std.specs.List.{flat_map, FoldsTo}
use Rattle.std.specs.Io.KnownBytes.{Consumes}

-- the stream that the pieces make
abbrev pub concatenation : List (List ℕ) → List ℕ
concatenation pieces = flat_map (λ piece. piece) pieces

-- the number of bytes that one read requests
abbrev pub buffer_size : ℕ
buffer_size = 131072

-- a piece of a stream that is read: at least one byte, and at most the number that one read requests
abbrev pub IsPiece : List ℕ → Type 0
IsPiece piece = (0 < length piece) × (length piece ≤ buffer_size)

-- a sink took pieces, which together are what was consumed of the reader, where its bytes are known
abbrev pub HasTaken : {S : Type 0} → (S → List ℕ → S → Type 0) → S → S → Option (List ℕ) → Option (List ℕ) → Type 0
HasTaken takes first last old new = (pieces : List (List ℕ)) × FoldsTo takes first pieces last × All IsPiece pieces × Consumes old new (concatenation pieces)

-- a sink took a beginning of these bytes, which may be empty, in some pieces
abbrev pub TakesBeginning : {S : Type 0} → (S → List ℕ → S → Type 0) → S → List ℕ → S → Type 0
TakesBeginning takes before bytes after = (pieces : List (List ℕ)) × (rest : List ℕ) × FoldsTo takes before pieces after × (bytes ≡ concatenation pieces ++ rest)
