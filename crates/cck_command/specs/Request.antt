-- what the words of a command line ask for
use Rattle.std.specs.Prelude.{◌≢◌, ℕ, List, [], ◌∷◌, codes}
use Rattle.cck_util.specs.Language.{language_name}
use Rattle.cck_util.specs.declared.language.Language.{Language}

-- a key that is asked for, but for the text that is read
pub record KeyCommand : Type 0 where
  pub compiler_digest : List ℕ
  pub language : Language
  pub arguments : List (List ℕ)

-- the words that ask for it
abbrev pub words_of : KeyCommand → List (List ℕ)
words_of request = codes "key" ∷ request.compiler_digest ∷ language_name request.language ∷ request.arguments

-- these words ask for no key
abbrev pub IsNoKeyRequest : List (List ℕ) → Type 0
IsNoKeyRequest words = (request : KeyCommand) → words ≢ words_of request

-- the words that ask for a run of the script that is read
abbrev pub run_words : List (List ℕ)
run_words = codes "run" ∷ []

-- these words ask for nothing
abbrev pub IsUsageError : List (List ℕ) → Type 0
IsUsageError words = IsNoKeyRequest words × (words ≢ run_words)
