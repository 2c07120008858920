-- names of tests for headers, and of the headers that they look for
use Rattle.std.specs.Prelude.{ℕ, Bool, true, false, not, ◌&&◌, ◌||◌, ◌==◌, nat_eq, nat_lt, List, length, take, drop, Option, Some, None, is_some, option_and_then, codes, if◌then◌else◌}
use Rattle.std.specs.Borrow.{Bor}
use Rattle.std.specs.Char.{is_ascii_alphanumeric}
use Rattle.std.specs.List.{ends_with, list_all, starts_with}
use Rattle.std.specs.Option.{option_map_or}
use Rattle.std.specs.Str.{bytes_eq}
use Rattle.cck_cache_text.specs.Identifier.{after_blanks, rest_of_word, stripped, word_of}
use Rattle.cck_digest.specs.TimeMacros.{has}
use Rattle.cck_cache_text.specs.Splices.{run_length}

-- a test for a header whose name is written out
pub record TestFields : Type 0 where
  pub name : List ℕ
  pub is_quoted : Bool

-- the same of a name that is lent, with whether it is in quotes
abbrev pub lent_fields : Bor (List ℕ) × Bool → TestFields
lent_fields found = record { name = found.0.now; is_quoted = found.1 }

-- an identifier ends as a name of a test for a header: the name, a part of it that is pasted, or a macro that stands for it
abbrev pub is_test_name : List ℕ → Bool
is_test_name word =
    ends_with nat_eq word (codes "as_include") || (ends_with nat_eq word (codes "HAS_INCLUDE")
    || (ends_with nat_eq word (codes "as_include_next") || ends_with nat_eq word (codes "as_embed")))

-- an identifier is a name of a test, or the beginning of one
abbrev pub is_beginning : List ℕ → Bool
is_beginning word = starts_with nat_eq (codes "__has_include_next") word || starts_with nat_eq (codes "__has_embed") word

-- the same of what begins here, if it is no shorter than `__ha`
abbrev pub begins_test : List ℕ → Bool
begins_test after = starts_with nat_eq after (codes "__ha") && is_beginning (word_of after)

-- the same, or an identifier that ends as one
abbrev pub is_test_word : List ℕ → Bool
is_test_word after = begins_test after || is_test_name (word_of after)

-- a text that has none of these has no such identifier and no such beginning
abbrev pub may_have_test : List ℕ → Bool
may_have_test text = has text (codes "__ha") || (has text (codes "as_include") || (has text (codes "HAS_INCLUDE") || has text (codes "as_embed")))

-- blanks and a closing parenthesis
abbrev pub is_closed : List ℕ → Bool
is_closed text = is_some (stripped 41 (after_blanks text))

-- a byte of a name that is read in one way, in an argument of a macro too: no quote, no parenthesis, and none of a backslash or a trigraph
abbrev pub is_name_byte : ℕ → Bool
is_name_byte byte = not (byte == 34 || byte == 39 || byte == 40 || byte == 41 || byte == 63 || byte == 92)

-- a text has a sign at which a comment begins
abbrev pub has_comment : List ℕ → Bool
has_comment text = has text (codes "/*") || has text (codes "//")

-- a name of such bytes, at least one, without such a sign
abbrev pub is_plain_name : List ℕ → Bool
is_plain_name name = nat_lt 0 (length name) && (not (has_comment name) && list_all is_name_byte name)

-- the name up to this byte, which a closing parenthesis follows
abbrev pub closed_name : List ℕ → ℕ → Option (List ℕ)
closed_name text close =
    let size = run_length (λ byte. not (byte == close)) text in
    option_and_then (λ rest. if is_closed rest && is_plain_name (take size text) then Some (take size text) else None) (stripped close (drop size text))

-- the name in quotes or in brackets
abbrev pub named : List ℕ → Option TestFields
named text =
    let in_quotes = λ (rest : List ℕ). option_and_then (λ name. Some (record { name = name; is_quoted = true })) (closed_name rest 34) in
    let in_brackets = λ (rest : List ℕ). option_and_then (λ name. Some (record { name = name; is_quoted = false })) (closed_name rest 62) in
    option_map_or in_quotes (stripped 34 text) (option_and_then in_brackets (stripped 60 text))

-- the same in parentheses
abbrev pub name_in : List ℕ → Option TestFields
name_in text = option_and_then (λ inner. named (after_blanks inner)) (stripped 40 (after_blanks text))

-- a byte of a name in brackets that an argument of a macro has as tokens: gcc puts them together to this name
abbrev pub is_token_byte : ℕ → Bool
is_token_byte byte = is_ascii_alphanumeric byte || byte == 95 || byte == 46 || byte == 47 || byte == 43 || byte == 45

-- an identifier of such a name may begin with `_`, as each macro that the compiler has and no text shows
abbrev pub has_low_word : List ℕ → Bool
has_low_word name =
    starts_with nat_eq name (codes "_") || (has name (codes "._") || (has name (codes "/_") || (has name (codes "+_") || has name (codes "-_"))))

-- a name of which no identifier begins so, of such bytes
abbrev pub is_token_name : List ℕ → Bool
is_token_name name = not (has_low_word name) && list_all is_token_byte name

-- the test, if its name is in quotes or made of tokens
abbrev pub as_tokens : Option TestFields → Option TestFields
as_tokens found = option_and_then (λ test. if test.is_quoted || is_token_name test.name then Some test else None) found

abbrev pub is_include_word : List ℕ → Bool
is_include_word word = bytes_eq word (codes "__has_include") || bytes_eq word (codes "__has_include_next")

-- the same, or the name of a macro that may stand for it
abbrev pub is_judged_word : List ℕ → Bool
is_judged_word word =
    ends_with nat_eq word (codes "has_include") || (ends_with nat_eq word (codes "HAS_INCLUDE") || bytes_eq word (codes "__has_include_next"))

-- the name of a macro that may stand for a test, and of no test
abbrev pub is_macro_word : List ℕ → Bool
is_macro_word word = is_judged_word word && not (is_include_word word)

-- The test whose name begins here. The name of a header may be an argument of a macro that stands for a test.
abbrev pub test_in : List ℕ → Option TestFields
test_in text = if is_include_word (word_of text) then name_in (rest_of_word text) else as_tokens (name_in (rest_of_word text))
