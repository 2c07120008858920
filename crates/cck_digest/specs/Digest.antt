-- hexadecimal digits and hex digests
use Rattle.std.specs.Prelude.{◌≡◌, ℕ, ◌+◌, ◌%◌, ◌/◌, ◌<◌, All, List, [], ◌∷◌, ◌++◌, codes, nat_lt, if◌then◌else◌}
use Rattle.std.specs.List.{flat_map}

-- the digit of half a byte, in lower case
abbrev pub hex_digit : ℕ → ℕ
hex_digit half = if nat_lt half 10 then 48 + half else 87 + half

-- the two digits of a byte, that of the low half first
abbrev pub hex_pair : ℕ → List ℕ
hex_pair byte = hex_digit (byte % 16) ∷ hex_digit (byte / 16) ∷ []

-- the digits of these bytes
abbrev pub hex_text : List ℕ → List ℕ
hex_text bytes = flat_map hex_pair bytes

-- the hex digest of these bytes, by this hash function
abbrev pub digest_text : (List ℕ → List ℕ) → List ℕ → List ℕ
digest_text hash bytes = hex_text (hash bytes)

-- the bytes that are fed for a delimiter of this name
abbrev pub delimiter_bytes : List ℕ → List ℕ
delimiter_bytes name = (0 ∷ codes "SCCACHE" ++ 0 ∷ []) ++ name ++ 0 ∷ []

-- bytes with equal digits are equal
abbrev pub HexTellsBytes : Type 0
HexTellsBytes = (a b : List ℕ) → All (λ byte. byte < 256) a → All (λ byte. byte < 256) b → hex_text a ≡ hex_text b → a ≡ b
