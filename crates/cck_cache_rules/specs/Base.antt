-- the base directory of portable words
use Rattle.std.specs.Prelude.{◌≡◌, ◌≢◌, ◌≤◌, ℕ, ◌⊎◌, List, ◌++◌, All, Any, map, Option, Some, None, codes}
use Rattle.std.specs.Option.{option_map}
use Rattle.cck_cache_rules.specs.Argument.{AsksForDebug, Begins, IsEndOf, IsPortable, MapsDebug}
use Rattle.cck_cache_rules.specs.declared.base.Words.{Words}

-- the words as lists of bytes
pub record WordLists : Type 0 where
  pub base : Option (List ℕ)
  pub directory : List ℕ
  pub arguments : List (List ℕ)

abbrev pub word_lists : Words → WordLists
word_lists words = record {
  base = option_map (λ b. b.now) words.base;
  directory = words.directory.now;
  arguments = map (λ a. a.items) words.arguments.now;
}

-- a byte that is visible, and is neither `=` nor `"` nor a backslash
pub record IsPlainByte (byte : ℕ) : Type 0 where
  pub from : 33 ≤ byte
  pub up_to : byte ≤ 126
  pub no_equals : byte ≢ 61
  pub no_quote : byte ≢ 34
  pub no_backslash : byte ≢ 92

-- an absolute path that is not the root, and stays as it is in a line marker and in an option
pub record IsPlain (base : List ℕ) : Type 0 where
  pub absolute : Begins base (codes "/")
  pub ended : ¬ IsEndOf base (codes "/")
  pub bytes : All IsPlainByte base

-- the path is the base directory, or goes on with a slash after it
abbrev pub IsBelow : List ℕ → List ℕ → Type 0
IsBelow path base = (path ≡ base) ⊎ Begins path (base ++ codes "/")

abbrev pub AllPortable : List (List ℕ) → List ℕ → Type 0
AllPortable arguments base = All (λ argument. IsPortable argument base) arguments

abbrev pub AskForDebug : List (List ℕ) → Type 0
AskForDebug arguments = Any AsksForDebug arguments

abbrev pub MapDebug : List (List ℕ) → List ℕ → Type 0
MapDebug arguments base = Any (λ argument. MapsDebug argument base) arguments

-- debug information that is asked for has another name in place of the base directory
abbrev pub HidesBase : List (List ℕ) → List ℕ → Type 0
HidesBase arguments base = AskForDebug arguments → MapDebug arguments base

-- these words have this base directory, and are those of a portable compilation
pub record ArePortable (words : WordLists) (base : List ℕ) : Type 0 where
  pub given : words.base ≡ Some base
  pub plain : IsPlain base
  pub below : IsBelow words.directory base
  pub arguments : AllPortable words.arguments base
  pub hidden : HidesBase words.arguments base

-- the base directory of portable words, and none of others
abbrev pub BaseOf : WordLists → Option (List ℕ) → Type 0
BaseOf words None = (base : List ℕ) → ¬ ArePortable words base
BaseOf words (Some base) = ArePortable words base
