-- signatures of the values of a server
use Rattle.std.specs.Prelude.{ℕ, ◌-◌, List, ◌++◌, length, map, replicate, bit_xor, nat_lt, if◌then◌else◌, codes}

-- a key of more than 64 bytes counts by its digest
abbrev pub short_key : (List ℕ → List ℕ) → List ℕ → List ℕ
short_key hash key = if nat_lt 64 (length key) then hash key else key

-- 64 bytes: those of the key and then zero bytes, each combined with this byte by exclusive or
abbrev pub pad : ℕ → List ℕ → List ℕ
pad byte key = map (λ k. bit_xor k byte) key ++ replicate (64 - length key) byte

-- the code of a text under a key, by a hash function with blocks of 64 bytes, as RFC 2104 has it
abbrev pub hmac : (List ℕ → List ℕ) → List ℕ → List ℕ → List ℕ
hmac hash key text = hash (pad 92 (short_key hash key) ++ hash (pad 54 (short_key hash key) ++ text))

-- what is signed of the bytes of a kind and a name
abbrev pub signed_text : List ℕ → List ℕ → List ℕ → List ℕ
signed_text kind name bytes = kind ++ codes "\n" ++ name ++ codes "\n" ++ bytes
