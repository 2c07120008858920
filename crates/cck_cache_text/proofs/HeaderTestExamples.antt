-- The definitions of tests for headers, at literal values.
use Rattle.std.proofs.Common.{◌≡◌, true, false, Some, None, codes, refl}
use Rattle.cck_cache_text.specs.SearchList.{text_lines}
use Rattle.cck_cache_text.specs.Condition.{after_piece, is_known, is_read}
use Rattle.cck_cache_text.specs.DependencyPragma.{is_dependency_line}
use Rattle.cck_cache_text.specs.HeaderTests.{is_no_test, is_passed_over, is_test, may_be_open, may_begin_open, tested}
use Rattle.cck_cache_text.specs.TestMacro.{is_alias, is_defined, macro_test, names_class}
use Rattle.cck_cache_text.specs.TestName.{name_in}

-- ---- conditions

operands : is_known (codes "# if defined(A) && !(defined B || ") ≡ true
operands = refl

tests : is_known (codes "#elif (__has_include(<a/b.h>) || /* ( */ X_HAS_INCLUDE (\"a.h\")) && 0x1 && ") ≡ true
tests = refl

macro : is_known (codes "#if A && ") ≡ false
macro = refl

call : is_known (codes "#if F(") ≡ false
call = refl

comment_after_a_test : is_known (codes "#if X_HAS_INCLUDE(<a.h>) /**/ (") ≡ false
comment_after_a_test = refl

call_of_a_test : is_known (codes "#if X_HAS_INCLUDE(<a.h>) (") ≡ false
call_of_a_test = refl

string : is_known (codes "#if \")\" && ") ≡ false
string = refl

other_directive : is_known (codes "#define A defined(B) && ") ≡ false
other_directive = refl

after_the_end_of_a_comment : is_known (codes "*/ #if ") ≡ false
after_the_end_of_a_comment = refl

after_a_macro : is_read false (codes "#if (A >= 7) || (defined B && __has_include(<g.h>)) /* c */") 30 ≡ true
after_a_macro = refl

before_two_slashes : is_read false (codes "#if A || __has_include(<g.h>) // )") 9 ≡ false
before_two_slashes = refl

beside_a_macro : is_read false (codes "#if (A >= 7) || (B && __has_include(<g.h>)) // c") 22 ≡ false
beside_a_macro = refl

before_a_macro : is_read false (codes "#if A || __has_include(<g.h>) || B") 9 ≡ false
before_a_macro = refl

closed_after_it : is_read false (codes "#if F(1 || __has_include(<g.h>))") 11 ≡ false
closed_after_it = refl

after_a_string : is_read false (codes "#if F(\"(\") || __has_include(<g.h>)") 14 ≡ false
after_a_string = refl

before_a_comment : is_read false (codes "#if A > 4 && __has_include(<g.h>) /* c */ ") 13 ≡ true
before_a_comment = refl

goes_on_in_a_comment_after_it : is_read false (codes "#if A || __has_include(<g.h>) /*") 9 ≡ false
goes_on_in_a_comment_after_it = refl

one_piece : after_piece (codes "/* a */b") ≡ Some (codes "b")
one_piece = refl

no_piece : after_piece (codes "/* a ") ≡ None
no_piece = refl

-- ---- names

in_brackets : name_in (codes " ( <a b.h> )") ≡ Some (record { name = codes "a b.h"; is_quoted = false })
in_brackets = refl

in_quotes : name_in (codes "(\"a.h\")") ≡ Some (record { name = codes "a.h"; is_quoted = true })
in_quotes = refl

parenthesis_in_a_name : name_in (codes "(<)>)") ≡ None
parenthesis_in_a_name = refl

macro_as_a_name : name_in (codes "(A)") ≡ None
macro_as_a_name = refl

-- ---- what is passed over

asked : is_no_test false (codes "#if defined(A) && defined ( __has_include)") 26 ≡ true
asked = refl

asked_by_a_parameter : is_no_test false (codes "#define M(defined) defined __has_include(<a.h>)") 27 ≡ false
asked_by_a_parameter = refl

asked_by_a_directive : is_no_test false (codes "# ifdef __has_include") 8 ≡ true
asked_by_a_directive = refl

no_directive : is_passed_over (codes "/* see ") (codes "__has_include") ≡ true
no_directive = refl

undefined : is_defined (codes "# undef ") (codes "X_HAS_INCLUDE") ≡ true
undefined = refl

defined : is_defined (codes "# define ") (codes "X_HAS_INCLUDE(x) 0 /* none */") ≡ true
defined = refl

defined_alone : is_defined (codes "#define ") (codes "X_HAS_INCLUDE __has_include") ≡ true
defined_alone = refl

opens_a_parenthesis : is_defined (codes "#define ") (codes "X_HAS_INCLUDE(x) F(") ≡ false
opens_a_parenthesis = refl

calls_a_macro : is_defined (codes "#define ") (codes "X_HAS_INCLUDE F") ≡ false
calls_a_macro = refl

goes_on_in_a_comment : is_defined (codes "#define ") (codes "X_HAS_INCLUDE(x) /*") ≡ false
goes_on_in_a_comment = refl

alias : is_alias (codes "#define X_HAS_INCLUDE ") (codes "__has_include ") ≡ true
alias = refl

alias_with_a_parameter : is_alias (codes "#define X_HAS_INCLUDE( x ) ") (codes "__has_include (x) /* none */") ≡ true
alias_with_a_parameter = refl

defined_with_a_parameter : is_defined (codes "# define ") (codes "X_HAS_INCLUDE( x )  __has_include_next( x)") ≡ true
defined_with_a_parameter = refl

alias_of_another_name : is_alias (codes "#define X(x) ") (codes "__has_include(x)") ≡ false
alias_of_another_name = refl

alias_of_a_string : is_alias (codes "#define X_HAS_INCLUDE(x) ") (codes "__has_include(#x)") ≡ false
alias_of_a_string = refl

alias_of_another_parameter : is_alias (codes "#define X_HAS_INCLUDE(y) ") (codes "__has_include(x)") ≡ false
alias_of_another_parameter = refl

alias_with_two_parameters : is_alias (codes "#define X_HAS_INCLUDE(x, y) ") (codes "__has_include(x)") ≡ false
alias_with_two_parameters = refl

alias_and_more : is_alias (codes "#define X_HAS_INCLUDE(x) ") (codes "__has_include(x) || F(") ≡ false
alias_and_more = refl

alias_of_a_test : is_alias (codes "#define __has_include(x) ") (codes "__has_include_next(x)") ≡ false
alias_of_a_test = refl

a_test_with_a_parameter : is_defined (codes "#define ") (codes "__has_include(x) __has_include_next(x)") ≡ false
a_test_with_a_parameter = refl

-- ---- macros that stand for a test

stands_for_a_test : macro_test (codes "# define T ") (codes "__has_include ( <a/b.h> ) // c") ≡ None
stands_for_a_test = refl

stands_for_it_alone : macro_test (codes "# define T ") (codes "__has_include ( <a/b.h> ) /* c */") ≡ Some (record { name = codes "a/b.h"; is_quoted = false })
stands_for_it_alone = refl

stands_for_more : macro_test (codes "#define T ") (codes "__has_include(<a.h>) && A") ≡ None
stands_for_more = refl

in_quotes_there : macro_test (codes "#define T ") (codes "__has_include(\"a.h\")") ≡ None
in_quotes_there = refl

with_a_parameter : macro_test (codes "#define T(x) ") (codes "__has_include(<a.h>)") ≡ None
with_a_parameter = refl

without_a_name : macro_test (codes "#define ") (codes "__has_include(<a.h>)") ≡ None
without_a_name = refl

by_another_macro : macro_test (codes "#define T ") (codes "X_HAS_INCLUDE(<a.h>)") ≡ None
by_another_macro = refl

-- ---- names of classes

name_of_a_class : names_class (codes "#define M(x) template<typename T> struct ") ≡ true
name_of_a_class = refl

name_after_another_word : names_class (codes "#define M(x) struct ") ≡ false
name_after_another_word = refl

name_in_a_condition : names_class (codes "#if 1 > struct ") ≡ false
name_in_a_condition = refl

-- ---- lines

in_a_comment : may_begin_open (text_lines (codes "/* a\nb\n*/ c\nd")) 2 ≡ true
in_a_comment = refl

after_a_comment : may_begin_open (text_lines (codes "/* a\nb\n*/ c\nd")) 3 ≡ false
after_a_comment = refl

-- the sign that ends a comment may begin one, and is none after the sign that begins it
again_open : may_be_open false 0 (codes "a */* b") ≡ true
again_open = refl

still_open : may_be_open false 0 (codes "/*/ b") ≡ true
still_open = refl

after_its_end : is_read true (codes "#if /**/ __has_include(<g.h>)") 9 ≡ false
after_its_end = refl

known : tested false (codes "#if __has_include(<g.h>)") 4 ≡ Some (record { name = codes "g.h"; is_quoted = false })
known = refl

is_one : is_test false (codes "#if __has_include(<g.h>)") 4 ≡ true
is_one = refl

defined_as_a_test : tested false (codes "#define T __has_include(<g.h>)") 10 ≡ Some (record { name = codes "g.h"; is_quoted = false })
defined_as_a_test = refl

by_a_macro : tested false (codes "#if X_HAS_INCLUDE(<a/g_.h>)") 4 ≡ Some (record { name = codes "a/g_.h"; is_quoted = false })
by_a_macro = refl

quoted_by_a_macro : tested false (codes "#if X_HAS_INCLUDE(\"_ ,.h\")") 4 ≡ Some (record { name = codes "_ ,.h"; is_quoted = true })
quoted_by_a_macro = refl

blank_by_a_macro : tested false (codes "#if X_HAS_INCLUDE(<g .h>)") 4 ≡ None
blank_by_a_macro = refl

macro_of_the_compiler_by_a_macro : tested false (codes "#if X_HAS_INCLUDE(<a/__LINE__>)") 4 ≡ None
macro_of_the_compiler_by_a_macro = refl

blind : tested false (codes "#if F(__has_include(<g.h>))") 6 ≡ None
blind = refl

-- ---- pragmas that compare the times of files

word_in_a_comment : is_dependency_line (codes "#define A 8 /* used during dependency checking */") ≡ false
word_in_a_comment = refl

word_before_a_comment : is_dependency_line (codes "#define D dependency /* c */") ≡ true
word_before_a_comment = refl

word_after_a_comment : is_dependency_line (codes "#define D /* c */ dependency") ≡ true
word_after_a_comment = refl

word_beside_a_string : is_dependency_line (codes "#define S \"/*\" dependency /* \" */") ≡ true
word_beside_a_string = refl
