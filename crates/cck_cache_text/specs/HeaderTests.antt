-- tests of a source for the existence of a header
use Rattle.std.specs.Prelude.{◌≡◌, ℕ, zero, suc, ◌-◌, ◌<◌, ◌⊎◌, ◌↔◌, Bool, true, false, not, ◌&&◌, ◌||◌, ◌==◌, nat_eq, List, [], ◌∷◌, ◌++◌, Contains, get_or, length, take, drop, map, Option, Some, None, codes, if◌then◌else◌}
use Rattle.std.specs.List.{ends_with}
use Rattle.cck_digest.specs.TimeMacros.{Has}
use Rattle.cck_cache_text.specs.TestName.{TestFields, is_judged_word, is_test_word, test_in}
use Rattle.cck_cache_text.specs.Identifier.{ends_in_word, is_start, word_of}
use Rattle.cck_cache_text.specs.Directive.{asks_for_definition, is_harmless}
use Rattle.cck_cache_text.specs.Condition.{is_read}
use Rattle.cck_cache_text.specs.TestMacro.{is_alias, is_defined, macro_test, names_class}
use Rattle.cck_cache_text.specs.SearchList.{text_lines}
use Rattle.cck_cache_text.specs.Splices.{before_blanks}
use Rattle.cck_cache_text.specs.declared.header_test.HeaderTest.{HeaderTest}

abbrev pub fields_of : HeaderTest → TestFields
fields_of test = record { name = test.name.items; is_quoted = test.is_quoted }

abbrev pub test_fields : List HeaderTest → List TestFields
test_fields tests = map fields_of tests

-- a text without a parenthesis at its end, and blanks
abbrev pub before_parenthesis : List ℕ → List ℕ
before_parenthesis text = if ends_with nat_eq text (codes "(") then before_blanks (take (length text - 1) text) else text

-- this front of a line ends in `defined` in a condition that is known
abbrev pub ends_defined : Bool → List ℕ → List ℕ → Bool
ends_defined inside line front = ends_in_word front (codes "defined") && is_read inside line (length front - 7)

-- a name at this place of a line is the operand of `ifdef`, `ifndef` or `defined`
abbrev pub is_operand : Bool → List ℕ → ℕ → Bool
is_operand inside line place = asks_for_definition (take place line) || ends_defined inside line (before_parenthesis (before_blanks (take place line)))

-- what is between these texts on a line is harmless, or is defined, or stands for a test in a macro, or is a part of the name of a class
abbrev pub is_passed_over : List ℕ → List ℕ → Bool
is_passed_over before after = is_harmless before || (is_defined before after || (is_alias before after || names_class before))

-- at this place of a line an identifier begins that is a name of a test, or a part of one
abbrev pub begins_word : List ℕ → ℕ → Bool
begins_word line place = is_test_word (drop place line) && is_start (take place line)

-- what is at this place of a line is an operand, or is passed over
abbrev pub is_no_test : Bool → List ℕ → ℕ → Bool
is_no_test inside line place = is_operand inside line place || is_passed_over (take place line) (drop place line)

-- at this place of a line there is a test for a header, or a part of the name of one
abbrev pub is_test : Bool → List ℕ → ℕ → Bool
is_test inside line place = begins_word line place && not (is_no_test inside line place)

-- the header whose name is written out at this place of a line
abbrev pub tested : Bool → List ℕ → ℕ → Option TestFields
tested inside line place =
    if is_judged_word (word_of (drop place line)) && is_read inside line place then test_in (drop place line)
    else macro_test (take place line) (drop place line)

-- a line has a test for this header
abbrev pub IsTestIn : Bool → List ℕ → TestFields → Type 0
IsTestIn inside line test = (place : ℕ) × (place < length line) × (is_test inside line place ≡ true) × (tested inside line place ≡ Some test)

-- a line has a test for a header whose name is not written out
abbrev pub IsBlindIn : Bool → List ℕ → Type 0
IsBlindIn inside line = (place : ℕ) × (place < length line) × (is_test inside line place ≡ true) × (tested inside line place ≡ None)

-- a list has what it had and these tests, and no other
abbrev pub Gains : (TestFields → Type 0) → List TestFields → List TestFields → Type 0
Gains P old new = (test : TestFields) → (Contains new test → Contains old test ⊎ P test) × (Contains old test ⊎ P test → Contains new test)

-- a list has gained the tests of a line; or one of them can't be judged
abbrev pub GainsLine : Bool → List ℕ → List TestFields → List TestFields → Bool → Type 0
GainsLine inside line old new false = IsBlindIn inside line
GainsLine inside line old new true = (IsBlindIn inside line → ⊥) × Gains (IsTestIn inside line) old new

-- A comment may be open after a text, by whether one may be before it, and by the byte before it. The signs of comments in strings, and after others,
-- count too: where none is open, gcc is in none.
abbrev pub may_be_open : Bool → ℕ → List ℕ → Bool
may_be_open inside last [] = inside
may_be_open inside last (byte ∷ text) =
    if last == 47 && byte == 42 then may_be_open true 0 text else if last == 42 && byte == 47 then may_be_open false byte text else may_be_open inside byte text

-- a line of this number may begin in a comment
abbrev pub may_begin_open : List (List ℕ) → ℕ → Bool
may_begin_open lines zero = false
may_begin_open lines (suc n) = may_be_open (may_begin_open lines n) 0 (get_or lines n [])

-- a line may begin in a comment if one is opened on an earlier line, and none ends after that before the line
abbrev pub OpenCommentIsSeen : Type 0
OpenCommentIsSeen =
    (lines : List (List ℕ)) (m n : ℕ) (front rest : List ℕ) → m < n → get_or lines m [] ≡ front ++ (codes "/*" ++ rest)
    → (Has rest (codes "*/") → ⊥) → ((k : ℕ) → m < k → k < n → Has (get_or lines k []) (codes "*/") → ⊥) → may_begin_open lines n ≡ true

-- the line of this number has a test for this header, or for one whose name is not written out
abbrev pub IsTestOfLine : List (List ℕ) → ℕ → TestFields → Type 0
IsTestOfLine lines n = IsTestIn (may_begin_open lines n) (get_or lines n [])

abbrev pub IsBlindLine : List (List ℕ) → ℕ → Type 0
IsBlindLine lines n = IsBlindIn (may_begin_open lines n) (get_or lines n [])

-- exactly these are the tests of a source without its splices; or one of its tests can't be judged
abbrev pub AreTests : List ℕ → Option (List TestFields) → Type 0
AreTests text None = (n : ℕ) × (n < length (text_lines text)) × IsBlindLine (text_lines text) n
AreTests text (Some tests) =
    ((n : ℕ) → n < length (text_lines text) → IsBlindLine (text_lines text) n → ⊥)
    × ((test : TestFields) → Contains tests test ↔ ((n : ℕ) × (n < length (text_lines text)) × IsTestOfLine (text_lines text) n test))
