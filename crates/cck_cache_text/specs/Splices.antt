-- a source without its splices
use Rattle.std.specs.Prelude.{ℕ, ◌-◌, Bool, ◌&&◌, ◌||◌, ◌==◌, nat_eq, List, [], ◌∷◌, ◌++◌, length, take, drop, reverse, Option, Some, None, codes, if◌then◌else◌}
use Rattle.std.specs.List.{concat, ends_with, flat_map, list_any, take_while}
use Rattle.std.specs.Option.{option_map_or}
use Rattle.cck_digest.specs.TimeMacros.{has}
use Rattle.cck_cache_text.specs.SearchList.{text_lines}

-- white space within a line: a space, a tab, a vertical tab, a form feed, a carriage return or a zero byte
abbrev pub is_blank : ℕ → Bool
is_blank byte = byte == 32 || byte == 9 || byte == 11 || byte == 12 || byte == 13 || byte == 0

-- how many bytes at the front of a text pass a test
abbrev pub run_length : (ℕ → Bool) → List ℕ → ℕ
run_length test text = length (take_while test text)

-- a text without the blanks at its end
abbrev pub before_blanks : List ℕ → List ℕ
before_blanks text = take (length text - run_length is_blank (reverse text)) text

-- a line without the splice at its end: a backslash, and blanks
abbrev pub spliced : List ℕ → Option (List ℕ)
spliced line =
    let front = before_blanks line in
    if ends_with nat_eq front (codes "\\") then Some (take (length front - 1) front) else None

-- a line that a newline ends, without the splice, of which the newline is part
abbrev pub unspliced_line : List ℕ → List ℕ
unspliced_line line = option_map_or (λ front. front) (spliced line) (line ++ 10 ∷ [])

-- a text without the splices: no newline ends its last line
abbrev pub unspliced : List ℕ → List ℕ
unspliced text =
    let lines = text_lines text in
    flat_map unspliced_line (take (length lines - 1) lines) ++ concat (drop (length lines - 1) lines)

-- a line without the carriage return at its end
abbrev pub before_return : List ℕ → List ℕ
before_return line = if ends_with nat_eq line (codes "\r") then take (length line - 1) line else line

-- a line ends in the trigraph of a backslash, and blanks
abbrev pub ends_in_trigraph : List ℕ → Bool
ends_in_trigraph line = ends_with nat_eq (before_blanks line) (codes "??/")

-- gcc may end this line elsewhere, or join it with the next one
abbrev pub is_doubtful_line : List ℕ → Bool
is_doubtful_line line = has line (codes "\0") || (has (before_return line) (codes "\r") || ends_in_trigraph line)

-- a text that has none of these has no such line
abbrev pub may_be_doubtful : List ℕ → Bool
may_be_doubtful text = has text (codes "\0") || (has text (codes "\r") || has text (codes "??/"))

-- gcc may divide a text into other lines than a line feed does: by a zero byte, by a carriage return that no line feed follows, or by a trigraph
abbrev pub has_doubtful_lines : List ℕ → Bool
has_doubtful_lines text = may_be_doubtful text && list_any is_doubtful_line (text_lines text)
