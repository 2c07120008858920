-- the files that a program read
use Rattle.std.specs.Prelude.{◌≡◌, ℕ, Bool, true, ◌&&◌, ◌||◌, ◌==◌, ◌⊎◌, nat_eq, if◌then◌else◌, List, [], ◌∷◌, length, drop, slice_range, codes, IsTrue}
use Rattle.std.specs.BTreeSet.{BTreeSet}
use Rattle.std.specs.Char.{is_ascii_alphanumeric}
use Rattle.std.specs.Global.{Vec}
use Rattle.std.specs.List.{ends_with, list_all, list_any, starts_with}
use Rattle.std.specs.Str.{bytes_eq}
use Rattle.cck_include.specs.Marks.{Mark, Marks}
use Rattle.cck_cache_text.specs.Names.{directory_of, is_named}
use Rattle.cck_cache_text.specs.Rule.{IsRule}
use Rattle.cck_cache_text.specs.Sets.{has_key}

-- a name without its directory
abbrev pub file_of : List ℕ → List ℕ
file_of name = drop (length (directory_of name)) name

-- a file that gcc makes for the assembler: `cc`, six letters or digits, and `.s`
abbrev pub is_made_file : List ℕ → Bool
is_made_file file = length file == 10 && starts_with nat_eq file (codes "cc") && ends_with nat_eq file (codes ".s") && list_all is_ascii_alphanumeric (slice_range file 2 8)

-- a name that the assembler has for what it reads of the compiler, of which the first is standard input, and the last the one that `.file` gives
abbrev pub is_of_compiler : List ℕ → List ℕ → Bool
is_of_compiler input name = bytes_eq name (codes "{standard input}") || is_made_file (file_of name) || bytes_eq name (file_of input)

-- a name without each `./` that it begins with
abbrev pub without_dots : List ℕ → List ℕ
without_dots [] = []
without_dots (byte ∷ []) = byte ∷ []
without_dots (byte ∷ second ∷ name) = if byte == 46 && second == 47 then without_dots name else byte ∷ second ∷ name

-- a name of a set, as it is or without each `./` that it begins with
abbrev pub is_name_of : BTreeSet (Vec ℕ) → List ℕ → Bool
is_name_of names name = has_key names name || list_any (λ k. bytes_eq (without_dots k.items) name) names.keys

-- a file that the marks of a text name, as they do or without each `./` that its name begins with
abbrev pub IsNameOf : List Mark → List ℕ → Type 0
IsNameOf marks name = IsTrue (is_named marks name) ⊎ ((of : List ℕ) × IsTrue (is_named marks of) × (name ≡ without_dots of))

-- all of these names are such
abbrev pub AreNamesOf : List Mark → List (List ℕ) → Type 0
AreNamesOf marks [] = Unit {0}
AreNamesOf marks (name ∷ names) = IsNameOf marks name × AreNamesOf marks names

-- the first rule of this dependency file of an assembler has no other names
abbrev pub IsAssembledRule : List ℕ → List ℕ → Type 0
IsAssembledRule input rule = (names : List (List ℕ)) × IsRule rule names × (list_all (is_of_compiler input) names ≡ true)

-- the names of the first rule, of which there are none in an empty file
abbrev pub AreListed : List ℕ → List (List ℕ) → Type 0
AreListed [] names = names ≡ []
AreListed (byte ∷ bytes) names = IsRule (byte ∷ bytes) names

-- the first rule of this dependency file of a compiler has the names of files of a text alone
abbrev pub IsOpenedRule : List ℕ → List ℕ → Type 0
IsOpenedRule text rule = (names : List (List ℕ)) × AreListed rule names × ((marks : List Mark) → Marks true text marks → AreNamesOf marks names)
