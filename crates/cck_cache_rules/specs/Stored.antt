-- the bytes of a file of the store
use Rattle.std.specs.Prelude.{◌≡◌, ℕ, List, ◌++◌, length, Option, Some, None}
use Rattle.std.specs.List.{flat_map}
use Rattle.cck_digest.specs.Frames.{frame}
use Rattle.cck_cache_rules.specs.Checksum.{checksum}

-- a file of this kind with these parts, with the checksum of all frames
abbrev pub stored_file : List ℕ → List (List ℕ) → List ℕ
stored_file kind parts = kind ++ checksum (flat_map frame parts) ++ flat_map frame parts

-- bytes that are a kind, 32 bytes and a rest, with these and that rest, or bytes that are not
abbrev pub IsCut : List ℕ → List ℕ → Option (List ℕ × List ℕ) → Type 0
IsCut kind bytes None = (sums rest : List ℕ) → length sums ≡ 32 → bytes ≡ kind ++ sums ++ rest → ⊥
IsCut kind bytes (Some cut) = (length cut.0 ≡ 32) × (bytes ≡ kind ++ cut.0 ++ cut.1)
