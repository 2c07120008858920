-- conditions that are known piece by piece
use Rattle.std.specs.Prelude.{ℕ, zero, suc, ◌+◌, ◌-◌, Bool, false, not, ◌&&◌, ◌||◌, ◌==◌, nat_eq, List, [], ◌∷◌, get_or, length, take, drop, reverse, Option, Some, None, is_some, option_and_then, codes, if◌then◌else◌}
use Rattle.std.specs.Char.{is_ascii_digit}
use Rattle.std.specs.List.{list_all, starts_with}
use Rattle.std.specs.Option.{option_map_or}
use Rattle.std.specs.Str.{bytes_eq}
use Rattle.cck_cache_text.specs.Identifier.{after_blanks, after_word, rest_of_word, stripped, word_of}
use Rattle.cck_cache_text.specs.TestName.{is_judged_word, name_in}
use Rattle.cck_cache_text.specs.Directive.{condition_of}
use Rattle.cck_digest.specs.TimeMacros.{has}
use Rattle.cck_cache_text.specs.Splices.{is_blank, run_length}

-- a byte of a condition that stands by itself: a blank, `!`, `&`, `|` or a parenthesis
abbrev pub is_operator : ℕ → Bool
is_operator byte = is_blank byte || byte == 33 || byte == 38 || byte == 124 || byte == 40 || byte == 41

-- what follows the first end of a comment
abbrev pub after_comment : List ℕ → Option (List ℕ)
after_comment [] = None
after_comment (byte ∷ text) = if byte == 42 && starts_with nat_eq text (codes "/") then Some (drop 1 text) else after_comment text

-- what follows an identifier and a closing parenthesis
abbrev pub after_closed_word : List ℕ → Option (List ℕ)
after_closed_word text = option_and_then (λ rest. stripped 41 (after_blanks rest)) (after_word (after_blanks text))

-- what follows the operand of `defined`, which may be in parentheses
abbrev pub after_operand : List ℕ → Option (List ℕ)
after_operand text = option_map_or after_closed_word (stripped 40 (after_blanks text)) (after_word (after_blanks text))

-- what follows a comment at the front of a text: `//` begins none in C89
abbrev pub after_comments : List ℕ → Option (List ℕ)
after_comments text = if starts_with nat_eq text (codes "/*") then after_comment (drop 2 text) else None

-- no more than a comment follows on the line
abbrev pub is_end : List ℕ → Bool
is_end text = option_map_or (λ rest. length (after_blanks rest) == 0) (after_comments text) false

-- No parenthesis follows, which could be of the arguments of a macro, and no comment, unless the line ends after it.
abbrev pub is_apart : List ℕ → Bool
is_apart text =
    if starts_with nat_eq (after_blanks text) (codes "/") then is_end (after_blanks text) else not (starts_with nat_eq (after_blanks text) (codes "("))

-- what follows the first closing parenthesis
abbrev pub after_parenthesis : List ℕ → List ℕ
after_parenthesis text = drop (run_length (λ byte. not (byte == 41)) text + 1) text

-- what follows the parentheses with the name of a test, in which there are no others
abbrev pub after_name : List ℕ → Option (List ℕ)
after_name text = if is_some (name_in text) && is_apart (after_parenthesis text) then Some (after_parenthesis text) else None

-- what follows an identifier of a condition that no macro changes: `defined` with its operand, or a test for a header
abbrev pub after_identifier : List ℕ → Option (List ℕ)
after_identifier text =
    if bytes_eq (word_of text) (codes "defined") then after_operand (rest_of_word text) else if is_judged_word (word_of text) then after_name (rest_of_word text) else None

-- what follows a number, a comment or such an identifier
abbrev pub after_token : List ℕ → Option (List ℕ)
after_token text =
    if is_ascii_digit (get_or text 0 0) then after_word text
    else if get_or text 0 0 == 47 then after_comments text else after_identifier text

-- what follows the first piece of a condition: an operator, or one of these
abbrev pub after_piece : List ℕ → Option (List ℕ)
after_piece text = if is_operator (get_or text 0 0) then Some (drop 1 text) else after_token text

-- how many parentheses are open after a piece that begins with this byte, none if it closes one that is not open
abbrev pub depth_after : ℕ → ℕ → Option ℕ
depth_after byte depth = if byte == 40 then Some (depth + 1) else if byte == 41 then (if depth == 0 then None else Some (depth - 1)) else Some depth

-- how many are open after a list of such pieces, and of no more than this many
abbrev pub depth_in : ℕ → ℕ → List ℕ → Option ℕ
depth_in zero depth text = if length text == 0 then Some depth else None
depth_in (suc n) depth text =
    if length text == 0 then Some depth
    else option_and_then (λ next. option_and_then (λ rest. depth_in n next rest) (after_piece text)) (depth_after (get_or text 0 0) depth)

abbrev pub depth_of : List ℕ → Option ℕ
depth_of text = depth_in (length text) 0 text

-- the condition of this text is known: it is a list of such pieces, in which no macro is called
abbrev pub is_known : List ℕ → Bool
is_known before = option_map_or (λ condition. is_some (depth_of condition)) (condition_of before) false

-- a byte of no string, character, comment, trigraph or splice
abbrev pub is_plain_byte : ℕ → Bool
is_plain_byte byte = not (byte == 34 || byte == 39 || byte == 47 || byte == 63 || byte == 92)

-- a condition begins in this text, which ends in no string, character or comment
abbrev pub is_plain_front : List ℕ → Bool
is_plain_front front = is_some (condition_of front) && list_all is_plain_byte front

-- a text is a list of such pieces, which opens each parenthesis that it closes and closes each that it opens
abbrev pub is_closed_list : List ℕ → Bool
is_closed_list text = option_map_or (λ depth. depth == 0) (depth_of text) false

-- What follows the last byte like this before a place is such a list, to the end of the line: if a macro before it opens arguments, nothing closes
-- them, which is an error.
abbrev pub is_cut_off : ℕ → List ℕ → ℕ → Bool
is_cut_off byte line place =
    let size = run_length (λ other. not (other == byte)) (reverse (take place line)) in
    is_plain_front (take (place - size) line) && is_closed_list (drop (place - size) line)

-- what is at this place of a line is in a condition, and in no argument of a macro, if the line does not begin in a comment
abbrev pub is_in_condition : List ℕ → ℕ → Bool
is_in_condition line place = is_known (take place line) || (is_cut_off 124 line place || is_cut_off 38 line place)

-- The same of a line that may begin in a comment: a directive before it may go on after that, so no comment ends before the place. A test there is read
-- without a look at macros. The operators after which the condition may be known are `|` and `&`.
abbrev pub is_read : Bool → List ℕ → ℕ → Bool
is_read inside line place = if inside && has (take place line) (codes "*/") then false else is_in_condition line place

-- no more than blanks and a comment follow on the line
abbrev pub is_finished : List ℕ → Bool
is_finished text = length (after_blanks text) == 0 || is_end (after_blanks text)
