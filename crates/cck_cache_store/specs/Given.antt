-- what is taken of the values of a server
use Rattle.std.specs.Prelude.{◌≡◌, ◌⊎◌, ℕ, List, Option, Some, None, length}
use Rattle.cck_cache_files.specs.declared.store_directory.Kind.{Kind}
use Rattle.cck_cache_store.specs.Peer.{kind_word}
use Rattle.cck_cache_store.specs.declared.given.Given.{Given}
use Rattle.cck_cache_store.specs.declared.given.Given.TheVariants.{File, Forged, Nothing}
use Rattle.cck_cache_rules.specs.Value.{IsUnsigned, compressed_value, signed_value}
use Rattle.cck_cache_rules.specs.Reading.{ReadsBack}
use Rattle.sha2.specs.Sha256.{sha256}

-- what is used of a value of a kind and a name: with a key the bytes that it signed, if it signed them; without one the bytes without a signature
abbrev pub IsTested : Option (List ℕ) → Kind → List ℕ → List ℕ → Option (List ℕ) → Type 0
IsTested (Some key) kind name value bytes = ReadsBack (signed_value sha256 key (kind_word kind) name) value bytes
IsTested None kind name value bytes = (b : List ℕ) × (bytes ≡ Some b) × IsUnsigned value b

-- a value without a signature is that of a file: it is the file, or has a frame of zstd, of which only the length that it expands to is known
abbrev pub IsFileValue : List ℕ → List ℕ → Type 0
IsFileValue bytes file = (bytes ≡ file) ⊎ ((frame : List ℕ) × (bytes ≡ compressed_value (length file) frame))

-- What is taken of the values that a server has of a kind and a name. With a key each file comes from a value that the key signed.
abbrev pub IsGiven : (List ℕ → Type 0) → Option (List ℕ) → Kind → List ℕ → Given → Type 0
IsGiven Has key kind name (File file) = (value bytes : List ℕ) × Has value × IsTested key kind name value (Some bytes) × IsFileValue bytes file.items
IsGiven Has key kind name Forged = (value : List ℕ) × Has value × IsTested key kind name value None
IsGiven Has key kind name Nothing = Unit {0}
