-- the contents of files, passed in pieces
use Rattle.std.specs.Prelude.{◌≡◌, ℕ, List, All}
use Rattle.std.specs.List.{FoldsTo}
use Rattle.cck_digest.specs.Stream.{IsPiece, concatenation}

-- a sink took these bytes, in some pieces
abbrev pub TakesAll : {S : Type 0} → (S → List ℕ → S → Type 0) → S → List ℕ → S → Type 0
TakesAll takes before bytes after = (pieces : List (List ℕ)) × FoldsTo takes before pieces after × All IsPiece pieces × (bytes ≡ concatenation pieces)
