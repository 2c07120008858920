-- checksums
use Rattle.std.specs.Prelude.{◌≢◌, ℕ, ◌*◌, ◌%◌, ◌^◌, ◌<◌, List, ◌∷◌, ◌++◌, bit_xor, fold}
use Rattle.std.specs.List.{AllByRecursion}

-- the state after one more byte
abbrev pub next : ℕ → ℕ → ℕ
next state byte = (bit_xor state byte * 1099511628211) % 2 ^ 64

-- the 64-bit FNV-1a of bytes: the state after the last of them
unfoldable pub checksum : List ℕ → ℕ
checksum bytes = fold next 14695981039346656037 bytes

-- texts that differ in one byte have different checksums
abbrev pub OneByteShows : Type 0
OneByteShows =
    (front back : List ℕ) (a b : ℕ) → a < 256 → b < 256 → AllByRecursion (λ byte. byte < 256) back → a ≢ b
    → checksum (front ++ a ∷ back) ≢ checksum (front ++ b ∷ back)
