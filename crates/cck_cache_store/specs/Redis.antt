-- commands to a Redis server
use Rattle.std.specs.Prelude.{◌≡◌, ℕ, ◌==◌, ◌||◌, cond, List, [], ◌∷◌, ◌++◌, String, codes, length, string_bytes}
use Rattle.std.specs.Global.{Global}
use Rattle.std.specs.List.{flat_map}
use Rattle.std.specs.Fmt.{decimal}
use Rattle.std.specs.Str.{bytes_eq}
use Rattle.cck_cache_store.specs.Number.{Says}
use Rattle.cck_cache_files.specs.declared.store_directory.Kind.{Kind}
use Rattle.cck_cache_store.specs.Peer.{kind_word}

-- a word of a command: its length, and the word
abbrev pub bulk_string : List ℕ → List ℕ
bulk_string word = codes "$" ++ decimal (length word) ++ codes "\r\n" ++ word ++ codes "\r\n"

-- a command: the number of its words, and each of them
abbrev pub redis_command : List (List ℕ) → List ℕ
redis_command words = codes "*" ++ decimal (length words) ++ codes "\r\n" ++ flat_map bulk_string words

-- the name of a value, with the number of the formats
abbrev pub redis_name : List ℕ → Kind → List ℕ → List ℕ
redis_name formats kind name = codes "cck:" ++ formats ++ codes ":" ++ kind_word kind ++ codes ":" ++ name

-- these commands, one after the other, and their number
pub record AreCommands (commands : List (List (List ℕ))) (made : String Global × ℕ) : Type 0 where
  pub text : string_bytes made.0 ≡ flat_map redis_command commands
  pub count : made.1 ≡ length commands

-- a server is told the user, or the default one where it is empty, if there is a secret
abbrev pub login : List ℕ → List ℕ → List (List (List ℕ))
login user secret = cond (length secret == 0) [] (cond (length user == 0) ((codes "AUTH" ∷ secret ∷ []) ∷ []) ((codes "AUTH" ∷ user ∷ secret ∷ []) ∷ []))

-- a server is told the database, unless it is the first one
abbrev pub selection : List ℕ → List (List (List ℕ))
selection database = cond ((length database == 0) || bytes_eq database (codes "0")) [] ((codes "SELECT" ∷ database ∷ []) ∷ [])

-- the first line of a reply with a value says this number of bytes
pub record SaysLength (line : List ℕ) (number : ℕ) : Type 0 where
  pub digits : List ℕ
  pub is_line : line ≡ codes "$" ++ digits
  pub says : Says digits number

abbrev pub SaysNoLength : List ℕ → Type 0
SaysNoLength line = (number : ℕ) → SaysLength line number → ⊥
