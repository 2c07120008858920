-- the files that a preprocessed text names
use Rattle.std.specs.Prelude.{◌≡◌, ◌⊎◌, Contains, IsTrue, ℕ, Bool, false, not, ◌&&◌, ◌||◌, ◌==◌, if◌then◌else◌, List, [], ◌∷◌, length, Option, Some, None, codes, nat_eq, is_some}
use Rattle.std.specs.List.{list_any, ends_with}
use Rattle.std.specs.Str.{bytes_eq}
use Rattle.cck_include.specs.Marks.{Mark, Name, Refusal, Malformed}
use Rattle.cck_cache_text.specs.Included.{IsAfter}
use Rattle.cck_cache_text.specs.SearchList.{text_lines}
use Rattle.cck_cache_text.specs.Sets.{has_key}
use Rattle.cck_cache_text.specs.declared.names.Named.{Named}

-- what the first mark of a name says: whether a system header has it
abbrev pub first_of_name : List ℕ → List Mark → Option Bool
first_of_name name [] = None
first_of_name name (Name other is_system_in ∷ marks) = if bytes_eq name other then Some is_system_in else first_of_name name marks
first_of_name name (Refusal ∷ marks) = first_of_name name marks
first_of_name name (Malformed ∷ marks) = first_of_name name marks

-- a name of no file: none, that of the macros of a compiler or of its arguments, or that of a working directory, which ends in two slashes
abbrev pub is_no_file : List ℕ → Bool
is_no_file name = length name == 0 || (bytes_eq name (codes "<built-in>") || (bytes_eq name (codes "<command-line>") || (bytes_eq name (codes "<command line>") || ends_with nat_eq name (codes "//"))))

-- a mark names this file
abbrev pub is_named : List Mark → List ℕ → Bool
is_named marks name = not (is_no_file name) && is_some (first_of_name name marks)

abbrev pub is_some_true : Option Bool → Bool
is_some_true None = false
is_some_true (Some b) = b

-- a mark names this file, and the first one that does says that it is a system header
abbrev pub is_system_name : List Mark → List ℕ → Bool
is_system_name marks name = not (is_no_file name) && is_some_true (first_of_name name marks)

-- a line enters a file of this name as a system header: a marker of its first line with the flags 1 and 3
abbrev pub EntersSystem : List ℕ → List ℕ → Type 0
EntersSystem line name = IsAfter (codes "# 1 \"") (codes "\" 1 3") line name

-- one of these lines does
abbrev pub IsEnteredBy : List (List ℕ) → List ℕ → Type 0
IsEnteredBy lines name = (line : List ℕ) × Contains lines line × EntersSystem line name

-- a system header by these marks, or by a line that enters it
abbrev pub IsSystem : List Mark → List ℕ → List ℕ → Type 0
IsSystem marks text name = IsTrue (is_system_name marks name) ⊎ IsEnteredBy (text_lines text) name

-- a name up to its last slash, which is part of it
abbrev pub directory_of : List ℕ → List ℕ
directory_of [] = []
directory_of (byte ∷ name) = if list_any (λ b. b == 47) (byte ∷ name) then byte ∷ directory_of name else []

-- the working directory, which is empty here, or the directory of a file that a mark names
abbrev pub is_place : List Mark → List ℕ → Bool
is_place [] directory = length directory == 0
is_place (Name name is_system_in ∷ marks) directory = (not (is_no_file name) && bytes_eq directory (directory_of name)) || is_place marks directory
is_place (Refusal ∷ marks) directory = is_place marks directory
is_place (Malformed ∷ marks) directory = is_place marks directory

-- the files that these marks name, those of system headers, and the places of all
pub record AreNames (marks : List Mark) (named : Named) : Type 0 where
  pub names : (name : List ℕ) → has_key named.names name ≡ is_named marks name
  pub systems : (name : List ℕ) → has_key named.systems name ≡ is_system_name marks name
  pub directories : (directory : List ℕ) → has_key named.directories directory ≡ is_place marks directory
