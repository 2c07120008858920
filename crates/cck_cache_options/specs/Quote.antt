-- quoted arguments, and how a POSIX shell reads them
use Rattle.std.specs.Prelude.{◌≡◌, ◌≢◌, ℕ, cond, ◌||◌, List, [], ◌∷◌, ◌++◌, Option, Some, None, flat_map, nat_eq}
use Rattle.std.specs.List.{AllByRecursion}
use Rattle.std.specs.Option.{option_map}
use Rattle.cck_cache_options.specs.Call.{KeyedArgument, is_preprocessed}

-- a byte between single quotes: for a single quote, one that ends them, an escaped one, and one that begins others
abbrev pub quoted_byte : ℕ → List ℕ
quoted_byte byte = cond (nat_eq byte 39) (39 ∷ 92 ∷ 39 ∷ 39 ∷ []) (byte ∷ [])

abbrev pub quoted : List ℕ → List ℕ
quoted argument = 39 ∷ (flat_map quoted_byte argument ++ 39 ∷ [])

abbrev pub quoted_and_space : List ℕ → List ℕ
quoted_and_space argument = quoted argument ++ 32 ∷ []

-- each argument, and a space after it
abbrev pub command : List (List ℕ) → List ℕ
command arguments = flat_map quoted_and_space arguments

abbrev pub preprocessor_argument : KeyedArgument → List ℕ
preprocessor_argument keyed = cond (is_preprocessed keyed.class) (quoted_and_space keyed.argument) []

-- those arguments that the preprocessor has
abbrev pub preprocessor_command : List KeyedArgument → List ℕ
preprocessor_command keyed = flat_map preprocessor_argument keyed

abbrev pub chosen : KeyedArgument → List (List ℕ)
chosen keyed = cond (is_preprocessed keyed.class) (keyed.argument ∷ []) []

abbrev pub preprocessor_arguments : List KeyedArgument → List (List ℕ)
preprocessor_arguments keyed = flat_map chosen keyed

-- where a shell is in a command line: between words, in a word outside quotes, after a backslash there, between single quotes
pub data Place : Type 0 where
  between : Place
  outside : Place
  escape : Place
  quotes : Place

-- one more byte at the front of the first word
abbrev pub add_byte : ℕ → List (List ℕ) → List (List ℕ)
add_byte byte [] = (byte ∷ []) ∷ []
add_byte byte (word ∷ words) = (byte ∷ word) ∷ words

-- The words of a text, by the rules of a POSIX shell for the bytes that quoted arguments have: a single quote begins and ends quotes, within which each
-- other byte stands for itself; outside them a backslash keeps the next byte, and a space ends a word. None for a text with any other byte outside
-- quotes, with a NUL, with an escaped line feed, or that ends within quotes or after a backslash. In a word, the first of the words is its rest.
abbrev pub shell_words : Place → List ℕ → Option (List (List ℕ))
shell_words between [] = Some []
shell_words outside [] = Some ([] ∷ [])
shell_words escape [] = None
shell_words quotes [] = None
shell_words between (byte ∷ text) =
    cond (nat_eq byte 39) (shell_words quotes text)
    (cond (nat_eq byte 92) (shell_words escape text)
    (cond (nat_eq byte 32) (shell_words between text) None))
shell_words outside (byte ∷ text) =
    cond (nat_eq byte 39) (shell_words quotes text)
    (cond (nat_eq byte 92) (shell_words escape text)
    (cond (nat_eq byte 32) (option_map (λ words. [] ∷ words) (shell_words between text)) None))
shell_words escape (byte ∷ text) =
    cond (nat_eq byte 0 || nat_eq byte 10) None (option_map (add_byte byte) (shell_words outside text))
shell_words quotes (byte ∷ text) =
    cond (nat_eq byte 39) (shell_words outside text)
    (cond (nat_eq byte 0) None (option_map (add_byte byte) (shell_words quotes text)))

-- as each argument of a process
abbrev pub HasNoNul : List ℕ → Type 0
HasNoNul argument = AllByRecursion (λ byte. byte ≢ 0) argument

-- a shell reads quoted arguments back
abbrev pub ReadsBack : Type 0
ReadsBack = (arguments : List (List ℕ)) → AllByRecursion HasNoNul arguments → shell_words between (command arguments) ≡ Some arguments
