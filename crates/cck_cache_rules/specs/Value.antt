-- the values that a server has
use Rattle.std.specs.Prelude.{◌≡◌, ◌⊎◌, ℕ, List, ◌++◌, codes, length}
use Rattle.cck_digest.specs.Frames.{length_bytes}
use Rattle.cck_cache_rules.specs.Signature.{hmac, signed_text}
use Rattle.cck_cache_rules.specs.declared.value.Payload.{Payload}
use Rattle.cck_cache_rules.specs.declared.value.Payload.TheVariants.{File, Compressed}

-- bytes after a signature
abbrev pub after_signature : List ℕ → List ℕ → List ℕ
after_signature signature bytes = codes "cck signed 1\n" ++ signature ++ bytes

-- bytes that are signed with a key as those of a kind and a name
abbrev pub signed_value : (List ℕ → List ℕ) → List ℕ → List ℕ → List ℕ → List ℕ → List ℕ
signed_value hash key kind name bytes = after_signature (hmac hash key (signed_text kind name bytes)) bytes

-- bytes after a signature of any key, or bytes that have none
abbrev pub IsUnsigned : List ℕ → List ℕ → Type 0
IsUnsigned value bytes =
    ((signature : List ℕ) × (length signature ≡ 32) × (value ≡ after_signature signature bytes))
    ⊎ ((value ≡ bytes) × ((signature rest : List ℕ) → length signature ≡ 32 → value ≡ after_signature signature rest → ⊥))

-- a frame of zstd, with the number of bytes of the file that it was made of
abbrev pub compressed_value : ℕ → List ℕ → List ℕ
compressed_value size frame = codes "cck zstd 1\n" ++ length_bytes size ++ frame

-- what bytes without a signature hold
abbrev pub IsPayload : List ℕ → Payload → Type 0
IsPayload value (Compressed size frame) = value ≡ compressed_value size frame.now
IsPayload value (File bytes) = (value ≡ bytes.now) × ((size : ℕ) (frame : List ℕ) → value ≡ compressed_value size frame → ⊥)
