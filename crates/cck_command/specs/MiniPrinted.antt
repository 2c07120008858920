-- what the small preprocessor prints
use Rattle.std.specs.Prelude.{ℕ, ℤ, pos, ◌+ℤ◌, zero, suc, ◌+◌, ◌-◌, ◌==◌, ◌&&◌, ◌||◌, slice_index, nat_eq, List, [], ◌∷◌, ◌++◌, length, take, drop, codes, not, position, if◌then◌else◌, Bool, Option, Some, None, Result, Ok, Err}
use Rattle.std.specs.List.{starts_with}
use Rattle.std.specs.Fmt.{decimal, signed_decimal}
use Rattle.std.specs.Int.{int_div_euclid}
use Rattle.cck_digest.specs.declared.error.FileError.{FileError}
use Rattle.cck_files.specs.FileMap.{FileMap, FileNode, file_at}
use Rattle.cck_path.specs.Bytes.{Bytes}
use Rattle.cck_path.specs.Path.{components}
use Rattle.cck_path.specs.Text.{join_path}
use Rattle.cck_path.specs.Timestamp.{Moment}

-- ---- macros

-- the texts of the three macros in one file
pub record Macros : Type 0 where
  pub date : Bytes
  pub time : Bytes
  pub timestamp : Bytes

-- the text of the macro at the front, and how long the macro is
unfoldable pub macro_at : Macros → Bytes → Option (Bytes × ℕ)
macro_at m text =
    if starts_with nat_eq text (codes "__DATE__") then Some (m.date, 8)
    else (if starts_with nat_eq text (codes "__TIME__") then Some (m.time, 8)
    else (if starts_with nat_eq text (codes "__TIMESTAMP__") then Some (m.timestamp, 13) else None))

-- the text of the macro and then the text after it, or else the text here
abbrev pub piece_or : Option (Bytes × ℕ) → Bytes → (ℕ → Bytes) → Bytes
piece_or None here following = here
piece_or (Some r) here following = r.0 ++ following (r.1 - 1)

-- the text with its macros replaced, where a number of its first bytes belong to a macro that was replaced
abbrev pub expanded_after : Macros → ℕ → Bytes → Bytes
expanded_after m skip [] = []
expanded_after m (suc skip) (b ∷ bs) = expanded_after m skip bs
expanded_after m zero (b ∷ bs) = piece_or (macro_at m (b ∷ bs)) (b ∷ expanded_after m zero bs) (λ k. expanded_after m k bs)

-- the text with its macros replaced, from left to right and without overlap
unfoldable pub expanded : Macros → Bytes → Bytes
expanded m text = expanded_after m 0 text

-- the local second of a time, if it is known
abbrev pub second_of : ℤ → Option Moment → Bytes
second_of zone None = codes "?"
second_of zone (Some t) = signed_decimal (t.seconds +ℤ zone)

-- the texts of the macros at a call time, in a file that was modified at this time
unfoldable pub macros_of : ℤ → Moment → Option Moment → Macros
macros_of zone moment modified = record {
  date = signed_decimal (int_div_euclid (moment.seconds +ℤ zone) (pos 86400));
  time = signed_decimal (moment.seconds +ℤ zone);
  timestamp = second_of zone modified;
}

-- ---- lines

abbrev pub onto_line : ℕ → List (Bytes × Bytes) → List (Bytes × Bytes)
onto_line b [] = (b ∷ [], []) ∷ []
onto_line b (line ∷ lines) = (b ∷ line.0, line.1) ∷ lines

abbrev pub is_lf : ℕ → Bool
is_lf b = b == 10

-- the lines of a text, each with the LF that ends it, or with nothing at the text's end
abbrev pub lines_in : Bytes → List (Bytes × Bytes)
lines_in [] = []
lines_in (b ∷ bs) = if is_lf b then ([], 10 ∷ []) ∷ lines_in bs else onto_line b (lines_in bs)

abbrev pub is_quote : ℕ → Bool
is_quote b = b == 34

abbrev pub quoted_name : Option ℕ → Bytes → Option Bytes
quoted_name None body = None
quoted_name (Some end) body = if not (end == 0) && (end + 1 == length body) then Some (take end body) else None

-- the name in a line `#include "NAME"`: not empty, and without a quote
unfoldable pub include_name : Bytes → Option Bytes
include_name line =
    if starts_with nat_eq line (codes "#include \"") then quoted_name (position is_quote (drop 10 line)) (drop 10 line) else None

-- the line marker `# N "PATH"` with what is after it
unfoldable pub marker : ℕ → Bytes → Bytes → Bytes
marker n path flag = codes "# " ++ decimal n ++ codes " \"" ++ path ++ codes "\"" ++ flag ++ 10 ∷ []

-- empty, or with an LF as its last byte
unfoldable pub is_empty_or_ends_in_lf : Bytes → Bool
is_empty_or_ends_in_lf text = length text == 0 || slice_index text (length text - 1) == 10

-- ---- files

-- a regular file: its contents, and when it was modified
abbrev pub FileText : Type 0
FileText = Bytes × Option Moment

abbrev pub text_if : Result FileNode FileError → Option FileText
text_if (Ok n) = Some (n.contents, n.modified)
text_if (Err e) = None

-- the regular file at a path, if there is one
unfoldable pub file_text_at : FileMap → Bytes → Option FileText
file_text_at map path = text_if (file_at map (components path))

-- an included file between its markers, of which the last has the number of the line after the inclusion
unfoldable pub included_text : Macros → Bytes → Bytes → ℕ → Bytes → Bytes
included_text m contents name n path =
    marker 1 name (codes " 1") ++ expanded m contents ++ (if is_empty_or_ends_in_lf contents then [] else 10 ∷ []) ++ marker n path (codes " 2")

-- ---- the whole text

-- two texts, one after the other, if both exist
abbrev pub both : Option Bytes → Option Bytes → Option Bytes
both None rest = None
both (Some text) None = None
both (Some text) (Some rest) = Some (text ++ rest)

module _ (zone : ℤ) (moment : Moment) (map : FileMap) (folder path : Bytes) where
  abbrev pub included : Bytes → ℕ → Option FileText → Option Bytes
  included name n None = None
  included name n (Some file) = Some (included_text (macros_of zone moment file.1) file.0 name n path)

  -- what a line is printed as, by the name that it includes: that file, if it is regular, or the line itself with these macros replaced
  abbrev pub line_text : Macros → Option Bytes → Bytes × Bytes → ℕ → Option Bytes
  line_text m None line n = Some (expanded m line.0 ++ line.1)
  line_text m (Some name) line n = included (join_path folder name) n (file_text_at map (join_path folder name))

  -- what lines are printed as; the line after the first of them has the number n
  abbrev pub lines_text : Macros → ℕ → List (Bytes × Bytes) → Option Bytes
  lines_text m n [] = Some []
  lines_text m n (line ∷ lines) = both (line_text m (include_name line.0) line n) (lines_text m (n + 1) lines)

  abbrev pub input_text : Option FileText → Option Bytes
  input_text None = None
  input_text (Some file) = both (Some (marker 1 path [])) (lines_text (macros_of zone moment file.1) 2 (lines_in file.0))

-- what is printed at a call time for an input in a directory, if it and all that it includes are regular files
unfoldable pub printed_input : ℤ → Moment → FileMap → Bytes → Bytes → Option Bytes
printed_input zone moment map folder input = input_text zone moment map folder (join_path folder input) (file_text_at map (join_path folder input))
