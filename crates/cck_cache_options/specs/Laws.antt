-- what holds of each reading of arguments
use Rattle.std.specs.Prelude.{◌≡◌, ◌≢◌, ◌≤◌, ◌⊎◌, ℕ, true, false, List, [], ◌∷◌, Option, Some, None, codes, length, map, nat_eq}
use Rattle.std.specs.List.{AllByRecursion, starts_with}
use Rattle.cck_cache_options.specs.Table.{Entry, fits, longest}
use Rattle.cck_cache_options.specs.Call.{Asked, asks, parse}
use Rattle.cck_cache_options.specs.Quote.{preprocessor_arguments, preprocessor_command, shell_words}
use Rattle.cck_cache_options.specs.Quote.Place.{between}

-- the first list has some elements of the second one, in their order
abbrev pub AreInOrder : List (List ℕ) → List (List ℕ) → Type 0
AreInOrder [] arguments = Unit {0}
AreInOrder (first ∷ others) [] = ⊥
AreInOrder (first ∷ others) (argument ∷ arguments) = ((first ≡ argument) × AreInOrder others arguments) ⊎ AreInOrder (first ∷ others) arguments

-- the arguments that count in a key are arguments of the call, in their order
abbrev pub KeyedInOrder : Type 0
KeyedInOrder = (table : List Entry) (arguments : List (List ℕ)) (call : Asked) → parse table arguments ≡ asks call
    → AreInOrder (map (λ keyed. keyed.argument) call.keyed) arguments

abbrev pub IsIn : Entry → List Entry → Type 0
IsIn option [] = ⊥
IsIn option (other ∷ others) = (option ≡ other) ⊎ IsIn option others

-- an option of the table that an argument is, such that no other one that it is has a longer name; none if it is none
abbrev pub IsLongest : List Entry → List ℕ → Option Entry → Type 0
IsLongest table argument None = AllByRecursion (λ option. fits option argument ≡ false) table
IsLongest table argument (Some best) =
    (fits best argument ≡ true) × IsIn best table × AllByRecursion (λ option. fits option argument ≡ true → length option.name ≤ length best.name) table

-- the row of an argument is one with the longest name
abbrev pub LongestIsFound : Type 0
LongestIsFound = (table : List Entry) (argument : List ℕ) → IsLongest table argument (longest table argument)

-- An argument that a compiler takes as it is, and prints on one line: it is not empty, does not begin with `@`, and has neither a line feed nor a NUL.
pub record IsPlain (argument : List ℕ) : Type 0 where
  pub not_empty : argument ≢ []
  pub no_file : starts_with nat_eq argument (codes "@") ≡ false
  pub bytes : AllByRecursion (λ byte. (byte ≢ 10) × (byte ≢ 0)) argument

-- each argument of a call that is cached is plain, so that none is a response file
abbrev pub NoneIsResponseFile : Type 0
NoneIsResponseFile = (table : List Entry) (arguments : List (List ℕ)) (call : Asked) → parse table arguments ≡ asks call → AllByRecursion IsPlain arguments

-- a shell reads from the command of the preprocessor the arguments of the call that count in a key, but for those of a dependency file and those of
-- the compiler's messages alone
abbrev pub PreprocessorIsRead : Type 0
PreprocessorIsRead = (table : List Entry) (arguments : List (List ℕ)) (call : Asked) → parse table arguments ≡ asks call
    → shell_words between (preprocessor_command call.keyed) ≡ Some (preprocessor_arguments call.keyed)
