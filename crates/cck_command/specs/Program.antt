-- what the program prints
use Rattle.std.specs.Prelude.{◌≡◌, ℕ, List, [], ◌∷◌, ◌++◌, ◌⊎◌, None, IfSome, codes, take}
use Rattle.std.specs.Io.KnownBytes.{Appends}
use Rattle.std.specs.declared.option.Option.{Option}
use Rattle.cck_path.specs.Bytes.{Bytes}
use Rattle.cck_command.specs.Script.{commands_of, wrong_line}
use Rattle.cck_util.specs.Key.{plain_params, object_key}
use Rattle.cck_command.specs.Printing.{AppendsBeginning}
use Rattle.cck_command.specs.Request.{IsUsageError, KeyCommand, run_words, words_of}
use Rattle.cck_command.specs.Run.{Ran, wrong_text}
use Rattle.cck_command.specs.declared.status.Status.{Status}
use Rattle.cck_command.specs.declared.status.Status.TheVariants.{Done, Usage}

-- printed for words that ask for nothing
abbrev pub usage_line : List ℕ
usage_line = codes "cck: usage: cck key DIGEST LANGUAGE [ARG..] | cck run" ++ 10 ∷ []

-- printed where input, output or memory failed
abbrev pub failed_line : List ℕ
failed_line = codes "cck: refused" ++ 10 ∷ []

-- printed for a key that is asked for, where the input is this text
abbrev pub key_line : (List ℕ → List ℕ) → KeyCommand → List ℕ → List ℕ
key_line hash request text =
    object_key hash (plain_params request.compiler_digest request.language request.arguments text) ++ 10 ∷ []

-- this is the whole output for these words and this input, where it is known, and the program ends with this status
pub record IsOutput (hash : Bytes → Bytes) (words : List Bytes) (input : Option Bytes) (status : Status) (text : Bytes) : Type 0 where
  pub usage : IsUsageError words → (status ≡ Usage) × (text ≡ usage_line)
  pub key : (request : KeyCommand) → words ≡ words_of request → (status ≡ Done) × IfSome input (λ read. text ≡ key_line hash request read)
  pub wrong : words ≡ run_words → IfSome input (λ read. IfSome (wrong_line read) (λ number. (status ≡ Usage) × (text ≡ wrong_text number)))
  pub ran : words ≡ run_words → IfSome input (λ read. wrong_line read ≡ None → (status ≡ Done) × Ran hash (commands_of read) text)

-- the same, with some status
abbrev pub IsSomeOutput : (Bytes → Bytes) → List Bytes → Option Bytes → Bytes → Type 0
IsSomeOutput hash words input text = (status : Status) × IsOutput hash words input status text

-- what a writer holds after input, output or memory failed: what it held, and a prefix of the line of a failure; or, where the writer
-- failed, a prefix of an output and then a prefix of that line
abbrev pub IsCutShort : (Bytes → Type 0) → Option Bytes → Option Bytes → Type 0
IsCutShort Output old new =
    AppendsBeginning old new failed_line ⊎ ((text : Bytes) × Output text × (m n : ℕ) × Appends old new (take m text ++ take n failed_line))
