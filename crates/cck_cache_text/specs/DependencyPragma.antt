-- pragmas that compare the times of files
use Rattle.std.specs.Prelude.{ℕ, ◌-◌, Bool, true, false, not, ◌&&◌, ◌||◌, ◌==◌, nat_eq, List, [], ◌∷◌, get_or, length, take, drop, codes, if◌then◌else◌}
use Rattle.std.specs.List.{list_any, starts_with}
use Rattle.cck_cache_text.specs.Condition.{is_end}
use Rattle.cck_cache_text.specs.Identifier.{after_blanks}
use Rattle.cck_digest.specs.TimeMacros.{has}
use Rattle.cck_cache_text.specs.SearchList.{text_lines}
use Rattle.cck_cache_text.specs.Splices.{is_blank}

-- a quote, a bracket or a comment is next, after blanks: the name of a file may follow
abbrev pub is_before_name : List ℕ → Bool
is_before_name rest =
    let next = after_blanks rest in
    starts_with nat_eq next (codes "\"") || (starts_with nat_eq next (codes "<") || starts_with nat_eq next (codes "/*"))

-- a byte at which a word of a pragma ends: a blank, a parenthesis, a comma, a backslash, or one of an operator of macros or a trigraph
abbrev pub is_end_byte : ℕ → Bool
is_end_byte byte = is_blank byte || byte == 35 || byte == 37 || byte == 41 || byte == 44 || byte == 63 || byte == 92

-- the same, or the word ends at such a byte, at a comment, or with the line
abbrev pub is_end_of_word : List ℕ → Bool
is_end_of_word rest = is_before_name rest || (length rest == 0 || (is_end_byte (get_or rest 0 0) || starts_with nat_eq rest (codes "//")))

-- the word `dependency` begins here, and ends, or ends before a name alone
abbrev pub is_dependency_word : Bool → List ℕ → Bool
is_dependency_word is_named line =
    starts_with nat_eq line (codes "dependency") && (if is_named then is_before_name (drop 10 line) else is_end_of_word (drop 10 line))

-- such a word is in a line
abbrev pub has_dependency_word : Bool → List ℕ → Bool
has_dependency_word is_named [] = false
has_dependency_word is_named (byte ∷ line) = is_dependency_word is_named (byte ∷ line) || has_dependency_word is_named line

-- the word `dependency` ends in a line as one of a pragma
abbrev pub ends_dependency : List ℕ → Bool
ends_dependency line = has_dependency_word false line

-- a line has a directive, or a part of the name of a pragma
abbrev pub has_directive : List ℕ → Bool
has_directive line = has line (codes "#") || has line (codes "%:") || has line (codes "??=") || has line (codes "GCC") || has line (codes "clang") || has line (codes "ragma")

-- what follows the front of a line before the first beginning of a comment
abbrev pub from_comment : List ℕ → List ℕ
from_comment [] = []
from_comment (byte ∷ line) = if starts_with nat_eq (byte ∷ line) (codes "/*") then byte ∷ line else from_comment line

-- a string or a character may begin or end in a line
abbrev pub has_quote : List ℕ → Bool
has_quote line = has line (codes "\"") || has line (codes "'")

-- A line without the comment with which it ends. In a line with a quote what begins a comment may be in a string.
abbrev pub without_comment : List ℕ → List ℕ
without_comment line =
    if has_quote line || not (is_end (from_comment line)) then line else take (length line - length (from_comment line)) line

-- a line has a directive, and the word before a comment with which it ends
abbrev pub is_directive_line : List ℕ → Bool
is_directive_line line = ends_dependency (without_comment line) && has_directive line

-- A line may be of a pragma that compares the times of files, or of a macro that makes one, by itself or with others: the word `dependency` is in it,
-- not only in a comment with which it ends, and a directive or a part of the name of a pragma, or the name of a file may follow.
abbrev pub is_dependency_line : List ℕ → Bool
is_dependency_line line = is_directive_line line || has_dependency_word true line

-- a source without its splices may have a pragma that compares the times of files
abbrev pub has_dependency : List ℕ → Bool
has_dependency text = has text (codes "dependency") && list_any is_dependency_line (text_lines text)
