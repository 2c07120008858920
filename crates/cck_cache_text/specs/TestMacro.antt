-- macros whose names are read as those of tests
use Rattle.std.specs.Prelude.{ℕ, Bool, false, not, ◌&&◌, ◌||◌, ◌==◌, ◌-◌, nat_eq, nat_lt, List, length, take, drop, Option, Some, None, option_and_then, codes, if◌then◌else◌}
use Rattle.std.specs.Char.{is_ascii_digit}
use Rattle.std.specs.List.{ends_with}
use Rattle.std.specs.Option.{option_map_or}
use Rattle.std.specs.Str.{bytes_eq}
use Rattle.cck_cache_text.specs.Identifier.{after_blanks, ends_in_word, is_word_byte, rest_of_word, stripped, word_of}
use Rattle.cck_cache_text.specs.Directive.{directive, directive_words}
use Rattle.cck_cache_text.specs.TestName.{TestFields, is_include_word, is_judged_word, is_macro_word, name_in}
use Rattle.cck_cache_text.specs.Condition.{after_closed_word, after_parenthesis, is_finished}
use Rattle.cck_cache_text.specs.Splices.{before_blanks, is_blank, run_length}

-- a byte of the parameters of a macro
abbrev pub is_parameter_byte : ℕ → Bool
is_parameter_byte byte = is_word_byte byte || (is_blank byte || (byte == 44 || byte == 46))

-- what follows the parameters of a macro, after a parenthesis
abbrev pub after_parameters : List ℕ → Option (List ℕ)
after_parameters text = stripped 41 (drop (run_length is_parameter_byte text) text)

-- a byte of a number, or a blank
abbrev pub is_number_byte : ℕ → Bool
is_number_byte byte = is_ascii_digit byte || is_blank byte

-- a macro stands for no more than a number
abbrev pub is_number : List ℕ → Bool
is_number text = is_finished (drop (run_length is_number_byte text) text)

-- a macro stands for the name of a test alone
abbrev pub is_test_alone : List ℕ → Bool
is_test_alone text = is_include_word (word_of text) && is_finished (rest_of_word text)

-- A macro of which this follows the name opens no parenthesis, and calls no other: it stands for a number, with parameters or without, or for the name
-- of a test.
abbrev pub is_plain_macro : List ℕ → Bool
is_plain_macro text =
    option_map_or (λ inner. option_map_or is_number (after_parameters inner) false) (stripped 40 text) (is_number text || is_test_alone (after_blanks text))

-- what follows an identifier in parentheses
abbrev pub after_enclosed : List ℕ → Option (List ℕ)
after_enclosed text = option_and_then after_closed_word (stripped 40 text)

-- the identifier after a parenthesis
abbrev pub enclosed : List ℕ → List ℕ
enclosed text = word_of (after_blanks (drop 1 text))

-- a test for the header that this parameter names, and no more
abbrev pub is_test_of : List ℕ → List ℕ → Bool
is_test_of parameter text =
    let inner = after_blanks (rest_of_word text) in
    is_include_word (word_of text) && (bytes_eq (enclosed inner) parameter && option_map_or is_finished (after_enclosed inner) false)

-- A macro of which this follows the name has one parameter, and stands for a test for the header that it names, and for no more.
abbrev pub is_test_of_parameter : List ℕ → Bool
is_test_of_parameter text = option_map_or (λ body. is_test_of (enclosed text) (after_blanks body)) (after_enclosed text) false

-- the name here is read as one of a test, and so are its uses, or it is not
abbrev pub is_plain_definition : List ℕ → Bool
is_plain_definition after =
    not (is_judged_word (word_of after))
    || (is_plain_macro (rest_of_word after) || (is_macro_word (word_of after) && is_test_of_parameter (rest_of_word after)))

-- the name is the one that a directive undefines, or defines as such a macro
abbrev pub is_defined : List ℕ → List ℕ → Bool
is_defined before after =
    let words = directive_words before in
    bytes_eq words (codes "undef") || (bytes_eq words (codes "define") && is_plain_definition after)

-- what follows `define` is no more than a name, without parameters
abbrev pub defines_name : List ℕ → Bool
defines_name words =
    let name = after_blanks (drop 6 words) in
    bytes_eq (word_of words) (codes "define") && (bytes_eq (word_of name) name && nat_lt 0 (length name))

-- the same, and the name is one of a test, or of a macro for one
abbrev pub defines_judged : List ℕ → Bool
defines_judged words = defines_name words && is_judged_word (after_blanks (drop 6 words))

-- what follows `define` is the name of a macro that may stand for a test, with one parameter
abbrev pub defines_call : List ℕ → Bool
defines_call words =
    let name = after_blanks (drop 6 words) in
    bytes_eq (word_of words) (codes "define")
    && (is_macro_word (word_of name) && option_map_or (λ rest. length rest == 0) (after_enclosed (rest_of_word name)) false)

-- this parameter
abbrev pub defined_parameter : List ℕ → List ℕ
defined_parameter words = enclosed (rest_of_word (after_blanks (drop 6 words)))

-- a directive defines a macro of such a name that is no more than a test for the header that its parameter names
abbrev pub is_call : List ℕ → List ℕ → Bool
is_call before after = defines_call (directive_words before) && is_test_of (defined_parameter (directive_words before)) after

-- The name of a test, or a test with its parameter, is all that a macro of such a name stands for: each use of the macro is read as a test.
abbrev pub is_alias : List ℕ → List ℕ → Bool
is_alias before after = (is_test_alone after && defines_judged (directive_words before)) || is_call before after

-- the test, if the name of the header is in brackets
abbrev pub in_brackets : Option TestFields → Option TestFields
in_brackets found = option_and_then (λ test. if test.is_quoted then None else Some test) found

-- a directive defines a macro that is no more than a test for a header
abbrev pub stands_for_test : List ℕ → List ℕ → Bool
stands_for_test before after =
    is_include_word (word_of after) && (defines_name (directive_words before) && is_finished (after_parenthesis (rest_of_word after)))

-- The test for a name in brackets for which a macro stands, and for no more. Where the macro is used, a word of the name may be a macro.
abbrev pub macro_test : List ℕ → List ℕ → Option TestFields
macro_test before after = if stands_for_test before after then in_brackets (name_in (rest_of_word after)) else None

-- A definition names a class after this, which ends in `> struct`: a condition with that is an error, where `struct` is not a macro.
abbrev pub names_class : List ℕ → Bool
names_class before =
    let front = before_blanks before in
    bytes_eq (directive before) (codes "define")
    && (ends_in_word front (codes "struct") && ends_with nat_eq (before_blanks (take (length front - 6) front)) (codes ">"))
