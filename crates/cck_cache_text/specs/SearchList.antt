-- a compiler's list of directories, as `gcc -v` prints it
use Rattle.std.specs.Prelude.{◌≡◌, ◌⊎◌, ℕ, Bool, true, false, ◌==◌, ◌||◌, List, [], ◌∷◌, ◌++◌, Option, Some, None, codes, length, nat_eq}
use Rattle.std.specs.List.{list_any, slice_split, before_first, after_first, ends_with}
use Rattle.std.specs.Str.{bytes_eq}
use Rattle.std.specs.Borrow.{Bor}
use Rattle.std.specs.Option.{option_map}
use Rattle.cck_cache_rules.specs.Reading.{AreRead, ReadsBack, byte_lists}
use Rattle.cck_cache_text.specs.declared.search_list.SearchList.{SearchList}

-- the directories that are searched, and how many of them for quotes alone; those that were left out because they do not exist, or because another
-- one is the same
pub record SearchFields : Type 0 where
  pub directories : List (List ℕ)
  pub quoted : ℕ
  pub missing : List (List ℕ)
  pub duplicates : List (List ℕ)

abbrev pub search_fields : SearchList → SearchFields
search_fields list = record {
  directories = byte_lists list.directories;
  quoted = list.quoted;
  missing = byte_lists list.missing;
  duplicates = byte_lists list.duplicates;
}

abbrev pub text_lines : List ℕ → List (List ℕ)
text_lines text = slice_split (λ byte. byte == 10) text

-- the two lines that begin a list, and the line that ends the last one
abbrev pub quote_line : List ℕ
quote_line = codes "#include \"...\" search starts here:"

abbrev pub angle_line : List ℕ
angle_line = codes "#include <...> search starts here:"

abbrev pub end_line : List ℕ
end_line = codes "End of search list."

abbrev pub begins_list : List ℕ → Bool
begins_list line = bytes_eq line quote_line || bytes_eq line angle_line

abbrev pub ends_list : List ℕ → Bool
ends_list line = bytes_eq line end_line

-- the line of a directory that is searched
abbrev pub listed_line : List ℕ → List ℕ
listed_line directory = 32 ∷ directory

-- these bytes, a directory and a quote
abbrev pub quoted_line : List ℕ → List ℕ → List ℕ
quoted_line front directory = front ++ (directory ++ 34 ∷ [])

-- the line of a directory that does not exist, and that of one that is the same as another
abbrev pub missing_line : List ℕ → List ℕ
missing_line directory = quoted_line (codes "ignoring nonexistent directory \"") directory

abbrev pub duplicate_line : List ℕ → List ℕ
duplicate_line directory = quoted_line (codes "ignoring duplicate directory \"") directory

-- the line says of something that it is no directory
abbrev pub is_file_line : List ℕ → Bool
is_file_line line = ends_with nat_eq line (codes ": not a directory")

-- what a call returns for each line: what is written so
abbrev pub ReadsLines : (Bor (List ℕ) → Option (Bor (List ℕ)) → Type 0) → (List ℕ → List ℕ) → Type 0
ReadsLines Returns write = (line : Bor (List ℕ)) (found : Option (Bor (List ℕ))) → Returns line found → ReadsBack write line.now (option_map (λ d. d.now) found)

-- what a call returns for each line: whether it passes this test
abbrev pub TestsLines : (Bor (List ℕ) → Bool → Type 0) → (List ℕ → Bool) → Type 0
TestsLines Returns test = (line : Bor (List ℕ)) (found : Bool) → Returns line found → found ≡ test line.now

-- the list in the lines before its end, if there is an end
pub record AreListed (front : List (List ℕ)) (ends : Bool) (list : SearchFields) : Type 0 where
  pub whole : ends ≡ true
  pub no_file : list_any is_file_line front ≡ false
  pub searched : AreRead listed_line (after_first begins_list front) list.directories
  pub for_quotes : List (List ℕ)
  pub are_for_quotes : AreRead listed_line (before_first begins_list (after_first begins_list front)) for_quotes
  pub quoted_is : list.quoted ≡ length for_quotes
  pub left_out : AreRead missing_line front list.missing
  pub same : AreRead duplicate_line front list.duplicates

-- The list in a text: the directories of the lines up to the first that ends a list, of which none says of something that it is no directory. Those
-- that are searched are after the first line that begins a list; those for quotes alone are before the next such line.
abbrev pub IsSearchList : List ℕ → Option SearchFields → Type 0
IsSearchList text None = (list_any ends_list (text_lines text) ≡ false) ⊎ (list_any is_file_line (before_first ends_list (text_lines text)) ≡ true)
IsSearchList text (Some list) = AreListed (before_first ends_list (text_lines text)) (list_any ends_list (text_lines text)) list
