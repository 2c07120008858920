-- the parts of a call's arguments
use Rattle.std.specs.Prelude.{◌≡◌, ◌≢◌, ◌⊎◌, ℕ, true, false, List, [], ◌∷◌, ◌++◌, Some, None, codes, flat_map, nat_eq}
use Rattle.std.specs.List.{starts_with}
use Rattle.std.specs.Str.{bytes_eq}
use Rattle.cck_cache_options.specs.declared.table.Form.TheVariants.{Alone, Joined, Separate, Either, Equals}
use Rattle.cck_cache_options.specs.declared.table.Class.{Class}
use Rattle.cck_cache_options.specs.declared.table.Class.TheVariants.{Text, Definition, Code, Message, CompilerMessage, Directory, Language, Nothing, Compile, Output, Dependencies, Rule, Target, DependencyFile, PreprocessorDependencyFile, PreprocessorTarget, Passed}
use Rattle.cck_cache_options.specs.Table.{Entry}
use Rattle.cck_cache_options.specs.Call.{Asked, asks, has_comma, is_contrary, is_input, keep, parse, start}
use Rattle.cck_cache_options.specs.Laws.{IsLongest}

-- the input, an option without a value, one with its value in the same argument, one with a `=` before it, one with its value in the next argument
pub data Part : Type 0 where
  input : List ℕ → Part
  alone : Entry → Part
  joined : Entry → List ℕ → Part
  equal : Entry → List ℕ → Part
  apart : Entry → List ℕ → Part

-- the arguments of a part
abbrev pub written : Part → List (List ℕ)
written (input path) = path ∷ []
written (alone option) = option.name ∷ []
written (joined option value) = (option.name ++ value) ∷ []
written (equal option value) = (option.name ++ 61 ∷ value) ∷ []
written (apart option value) = option.name ∷ value ∷ []

-- what a value says of a call
abbrev pub with_value : Asked → Class → List ℕ → Asked
with_value call Text value = call
with_value call Definition value = call
with_value call Code value = call
with_value call Message value = call
with_value call CompilerMessage value = call
with_value call Directory value = call
with_value call Language value = record call { as_c = true }
with_value call Nothing value = call
with_value call Compile value = call
with_value call Output value = record call { output = Some value }
with_value call Dependencies value = call
with_value call Rule value = call
with_value call Target value = record call { describes = true; targets = true }
with_value call DependencyFile value = record call { dependency_file = Some value; describes = true }
with_value call PreprocessorDependencyFile value = record call { dependency_file = Some value; preprocessor_depends = true }
with_value call PreprocessorTarget value = record call { preprocessor_targets = true }
with_value call (Passed cause) value = call

-- what an option without a value says
abbrev pub with_flag : Asked → Class → Asked
with_flag call Text = call
with_flag call Definition = call
with_flag call Code = call
with_flag call Message = call
with_flag call CompilerMessage = call
with_flag call Directory = call
with_flag call Language = call
with_flag call Nothing = call
with_flag call Compile = record call { compiles = true }
with_flag call Output = call
with_flag call Dependencies = record call { depends = true }
with_flag call Rule = record call { describes = true }
with_flag call Target = call
with_flag call DependencyFile = call
with_flag call PreprocessorDependencyFile = call
with_flag call PreprocessorTarget = call
with_flag call (Passed cause) = call

abbrev pub with_part : Asked → Part → Asked
with_part call (input path) = record (keep call Text path) { input = Some path }
with_part call (alone option) = with_flag (keep call option.class option.name) option.class
with_part call (joined option value) = with_value (keep call option.class (option.name ++ value)) option.class value
with_part call (equal option value) = with_value (keep call option.class (option.name ++ 61 ∷ value)) option.class value
with_part call (apart option value) = with_value (keep (keep call option.class option.name) option.class value) option.class value

-- A call may have a value of this class: not that of an option that is passed on, no second output and no second dependency file, none of the
-- preprocessor with a comma, and no language but C, before the input.
abbrev pub TakesValue : Asked → Class → List ℕ → Type 0
TakesValue call Text value = Unit {0}
TakesValue call Definition value = Unit {0}
TakesValue call Code value = Unit {0}
TakesValue call Message value = Unit {0}
TakesValue call CompilerMessage value = Unit {0}
TakesValue call Directory value = Unit {0}
TakesValue call Language value = (bytes_eq value (codes "c") ≡ true) × (call.input ≡ None)
TakesValue call Nothing value = Unit {0}
TakesValue call Compile value = Unit {0}
TakesValue call Output value = call.output ≡ None
TakesValue call Dependencies value = Unit {0}
TakesValue call Rule value = Unit {0}
TakesValue call Target value = Unit {0}
TakesValue call DependencyFile value = call.dependency_file ≡ None
TakesValue call PreprocessorDependencyFile value = (call.dependency_file ≡ None) × (has_comma value ≡ false)
TakesValue call PreprocessorTarget value = has_comma value ≡ false
TakesValue call (Passed cause) value = ⊥

abbrev pub TakesFlag : Class → Type 0
TakesFlag Text = Unit {0}
TakesFlag Definition = Unit {0}
TakesFlag Code = Unit {0}
TakesFlag Message = Unit {0}
TakesFlag CompilerMessage = Unit {0}
TakesFlag Directory = Unit {0}
TakesFlag Language = Unit {0}
TakesFlag Nothing = Unit {0}
TakesFlag Compile = Unit {0}
TakesFlag Output = Unit {0}
TakesFlag Dependencies = Unit {0}
TakesFlag Rule = Unit {0}
TakesFlag Target = Unit {0}
TakesFlag DependencyFile = Unit {0}
TakesFlag PreprocessorDependencyFile = Unit {0}
TakesFlag PreprocessorTarget = Unit {0}
TakesFlag (Passed cause) = ⊥

-- A part that may come next: the first input, which is a source, or an option of the table in its form, whose argument is no option of a longer name.
abbrev pub IsPart : List Entry → Asked → Part → Type 0
IsPart table call (input path) = (call.input ≡ None) × (starts_with nat_eq path (codes "-") ≡ false) × (is_input call.as_c path ≡ true)
IsPart table call (alone option) = IsLongest table option.name (Some option) × (option.form ≡ Alone) × TakesFlag option.class
IsPart table call (joined option value) =
    IsLongest table (option.name ++ value) (Some option) × ((option.form ≡ Joined) ⊎ (option.form ≡ Either)) × TakesValue call option.class value
IsPart table call (equal option value) = IsLongest table (option.name ++ 61 ∷ value) (Some option) × (option.form ≡ Equals) × TakesValue call option.class value
IsPart table call (apart option value) =
    IsLongest table option.name (Some option) × ((option.form ≡ Separate) ⊎ (option.form ≡ Either)) × TakesValue call option.class value

-- these parts lead from one call to another
abbrev pub AreParts : List Entry → Asked → List Part → Asked → Type 0
AreParts table call [] last = call ≡ last
AreParts table call (part ∷ parts) last = IsPart table call part × AreParts table (with_part call part) parts last

-- the arguments are those of such parts
pub record IsRead (table : List Entry) (arguments : List (List ℕ)) (call last : Asked) : Type 0 where
  pub parts : List Part
  pub are : flat_map written parts ≡ arguments
  pub lead : AreParts table call parts last

-- an object is made of an input, and a dependency file is asked for in one way or in none
pub record IsWhole (call : Asked) : Type 0 where
  pub compiles : call.compiles ≡ true
  pub input : call.input ≢ None
  pub dependencies : is_contrary call ≡ false

-- a call that is cached has no argument but the input, options of the table and their values
abbrev pub AskedIsRead : Type 0
AskedIsRead = (table : List Entry) (arguments : List (List ℕ)) (call : Asked) → parse table arguments ≡ asks call
    → IsRead table arguments start call × IsWhole call
