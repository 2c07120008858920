-- the arguments of a call
use Rattle.std.specs.Prelude.{ℕ, Bool, true, false, cond, not, ◌&&◌, ◌||◌, List, [], ◌∷◌, ◌++◌, Option, Some, None, codes, drop, fold, map, nat_eq}
use Rattle.std.specs.Option.{option_map}
use Rattle.std.specs.List.{ends_with, list_any, starts_with}
use Rattle.std.specs.Str.{bytes_eq}
use Rattle.cck_cache_options.specs.declared.call.Call.{Call}
use Rattle.cck_cache_options.specs.declared.call.Keyed.{Keyed}
use Rattle.cck_cache_options.specs.declared.call.Next.{Next}
use Rattle.cck_cache_options.specs.declared.call.Next.TheVariants.{On, Stop}
use Rattle.cck_cache_options.specs.declared.call.Parsed.{Parsed}
use Rattle.cck_cache_options.specs.declared.call.Parsed.TheVariants.{Asks, PassedOn}
use Rattle.cck_cache_options.specs.declared.reason.Reason.{Reason}
use Rattle.cck_cache_options.specs.declared.reason.Reason.TheVariants.{ResponseFile, EmptyArgument, ControlCharacter, UnknownOption, PassedOption, MissingValue, OtherInput, TwoInputs, NoInput, TwoOutputs, TwoDependencyFiles, DependencyOptions, NotCompiling}
use Rattle.cck_cache_options.specs.declared.table.Cause.TheVariants.{Mode, PreprocessorOption}
use Rattle.cck_cache_options.specs.declared.table.Class.{Class}
use Rattle.cck_cache_options.specs.declared.table.Class.TheVariants.{Text, Definition, Code, Message, CompilerMessage, Directory, Language, Nothing, Compile, Output, Dependencies, Rule, Target, DependencyFile, PreprocessorDependencyFile, PreprocessorTarget, Passed}
use Rattle.cck_cache_options.specs.declared.table.Form.{Form}
use Rattle.cck_cache_options.specs.declared.table.Form.TheVariants.{Alone, Joined, Separate, Either, Equals}
use Rattle.cck_cache_options.specs.Table.{Entry, after_name, has_bytes, is_empty, longest}

-- an argument that counts in a key, and what its option decides
pub record KeyedArgument : Type 0 where
  pub class : Class
  pub argument : List ℕ

abbrev pub keyed_argument : Keyed → KeyedArgument
keyed_argument keyed = record { class = keyed.class; argument = keyed.argument.now }

-- what a call asks for
pub record Asked : Type 0 where
  pub compiles : Bool
  pub input : Option (List ℕ)
  pub output : Option (List ℕ)
  pub depends : Bool
  pub preprocessor_depends : Bool
  pub describes : Bool
  pub targets : Bool
  pub dependency_file : Option (List ℕ)
  pub preprocessor_targets : Bool
  pub as_c : Bool
  pub keyed : List KeyedArgument

abbrev pub call_of : Call → Asked
call_of call = record {
  compiles = call.compiles;
  input = option_map (λ bytes. bytes.now) call.input;
  output = option_map (λ bytes. bytes.now) call.output;
  depends = call.depends;
  preprocessor_depends = call.preprocessor_depends;
  describes = call.describes;
  targets = call.targets;
  dependency_file = option_map (λ bytes. bytes.now) call.dependency_file;
  preprocessor_targets = call.preprocessor_targets;
  as_c = call.as_c;
  keyed = map keyed_argument call.keyed.items;
}

-- the state after some arguments: the call so far, and the class of the option whose value comes next; or why the call is not cached
pub data State : Type 0 where
  go : Asked → Option Class → State
  stop : Reason → State

pub data Outcome : Type 0 where
  asks : Asked → Outcome
  passed : Reason → Outcome

abbrev pub next_of : Asked → Next → State
next_of call (On waiting) = go call waiting
next_of call (Stop reason) = stop reason

abbrev pub outcome_of : Parsed → Outcome
outcome_of (Asks call) = asks (call_of call)
outcome_of (PassedOn reason) = passed reason

-- the arguments of options of this class count in a key: all but the paths of what is written, and those of no effect
abbrev pub is_keyed : Class → Bool
is_keyed Text = true
is_keyed Definition = true
is_keyed Code = true
is_keyed Message = true
is_keyed CompilerMessage = true
is_keyed Directory = true
is_keyed Language = true
is_keyed Nothing = false
is_keyed Compile = false
is_keyed Output = false
is_keyed Dependencies = true
is_keyed Rule = true
is_keyed Target = true
is_keyed DependencyFile = false
is_keyed PreprocessorDependencyFile = true
is_keyed PreprocessorTarget = true
is_keyed (Passed cause) = false

-- they count in a key, and are neither of a dependency file nor of the compiler's messages alone
abbrev pub is_preprocessed : Class → Bool
is_preprocessed Text = true
is_preprocessed Definition = true
is_preprocessed Code = true
is_preprocessed Message = true
is_preprocessed CompilerMessage = false
is_preprocessed Directory = true
is_preprocessed Language = true
is_preprocessed Nothing = false
is_preprocessed Compile = false
is_preprocessed Output = false
is_preprocessed Dependencies = false
is_preprocessed Rule = false
is_preprocessed Target = false
is_preprocessed DependencyFile = false
is_preprocessed PreprocessorDependencyFile = false
is_preprocessed PreprocessorTarget = false
is_preprocessed (Passed cause) = false

abbrev pub kept : Class → List ℕ → List KeyedArgument
kept class argument = cond (is_keyed class) (record { class = class; argument = argument } ∷ []) []

abbrev pub keep : Asked → Class → List ℕ → Asked
keep call class argument = record call { keyed = call.keyed ++ kept class argument }

abbrev pub with_output : Asked → Option (List ℕ) → List ℕ → State
with_output call None value = go (record call { output = Some value }) None
with_output call (Some other) value = stop TwoOutputs

abbrev pub take_output : Asked → List ℕ → State
take_output call value = with_output call call.output value

abbrev pub with_dependency_file : Asked → Option (List ℕ) → List ℕ → State
with_dependency_file call None value = go (record call { dependency_file = Some value; describes = true }) None
with_dependency_file call (Some other) value = stop TwoDependencyFiles

abbrev pub take_dependency_file : Asked → List ℕ → State
take_dependency_file call value = with_dependency_file call call.dependency_file value

abbrev pub with_preprocessor_file : Asked → Option (List ℕ) → List ℕ → State
with_preprocessor_file call None value = go (record call { dependency_file = Some value; preprocessor_depends = true }) None
with_preprocessor_file call (Some other) value = stop TwoDependencyFiles

-- a comma begins another option of the preprocessor
abbrev pub has_comma : List ℕ → Bool
has_comma value = list_any (λ byte. nat_eq byte 44) value

abbrev pub take_preprocessor_file : Asked → List ℕ → State
take_preprocessor_file call value = cond (has_comma value) (stop (PassedOption PreprocessorOption)) (with_preprocessor_file call call.dependency_file value)

abbrev pub take_preprocessor_target : Asked → List ℕ → State
take_preprocessor_target call value = cond (has_comma value) (stop (PassedOption PreprocessorOption)) (go (record call { preprocessor_targets = true }) None)

abbrev pub with_language : Asked → Option (List ℕ) → State
with_language call None = go (record call { as_c = true }) None
with_language call (Some other) = stop (PassedOption Mode)

-- the language of what follows is C, and is said before the input
abbrev pub take_language : Asked → List ℕ → State
take_language call value = cond (bytes_eq value (codes "c")) (with_language call call.input) (stop (PassedOption Mode))

-- the value of an option of this class
abbrev pub take : Asked → Class → List ℕ → State
take call Text value = go call None
take call Definition value = go call None
take call Code value = go call None
take call Message value = go call None
take call CompilerMessage value = go call None
take call Directory value = go call None
take call Language value = take_language call value
take call Nothing value = go call None
take call Compile value = go call None
take call Output value = take_output call value
take call Dependencies value = go call None
take call Rule value = go call None
take call Target value = go (record call { describes = true; targets = true }) None
take call DependencyFile value = take_dependency_file call value
take call PreprocessorDependencyFile value = take_preprocessor_file call value
take call PreprocessorTarget value = take_preprocessor_target call value
take call (Passed cause) value = stop (PassedOption cause)

-- an option without a value
abbrev pub flag : Asked → Class → State
flag call Text = go call None
flag call Definition = go call None
flag call Code = go call None
flag call Message = go call None
flag call CompilerMessage = go call None
flag call Directory = go call None
flag call Language = go call None
flag call Nothing = go call None
flag call Compile = go (record call { compiles = true }) None
flag call Output = go call None
flag call Dependencies = go (record call { depends = true }) None
flag call Rule = go (record call { describes = true }) None
flag call Target = go call None
flag call DependencyFile = go call None
flag call PreprocessorDependencyFile = go call None
flag call PreprocessorTarget = go call None
flag call (Passed cause) = stop (PassedOption cause)

abbrev pub on_equals : Asked → Class → Option (List ℕ) → State
on_equals call class (Some value) = take call class value
on_equals call class None = stop UnknownOption

-- the argument of an option, by the rest of it after the option's name
abbrev pub on_rest : Asked → Form → Class → List ℕ → State
on_rest call Alone class rest = flag call class
on_rest call Joined class rest = take call class rest
on_rest call Separate class rest = go call (Some class)
on_rest call Either class rest = cond (has_bytes rest) (take call class rest) (go call (Some class))
on_rest call Equals class rest = on_equals call class (after_name (codes "=") rest)

abbrev pub on_option : Asked → Form → Class → List ℕ → List ℕ → State
on_option call form class argument rest = on_rest (keep call class argument) form class rest

abbrev pub with_input : Asked → Option (List ℕ) → List ℕ → State
with_input call None argument = go (record (keep call Text argument) { input = Some argument }) None
with_input call (Some other) argument = stop TwoInputs

-- a compiler takes a file of this name for a source in C: it ends in `.c` and is longer
abbrev pub is_c : List ℕ → Bool
is_c name = ends_with nat_eq (drop 1 name) (codes ".c")

-- a text ends in a suffix of C++
abbrev pub ends_in_cplusplus : List ℕ → Bool
ends_in_cplusplus text =
    ends_with nat_eq text (codes ".cc") || (ends_with nat_eq text (codes ".cp") || (ends_with nat_eq text (codes ".cxx")
    || (ends_with nat_eq text (codes ".cpp") || (ends_with nat_eq text (codes ".CPP") || (ends_with nat_eq text (codes ".c++")
    || ends_with nat_eq text (codes ".C"))))))

-- a compiler takes a file of this name for a source in C++: it ends in such a suffix and is longer
abbrev pub is_cplusplus : List ℕ → Bool
is_cplusplus name = ends_in_cplusplus (drop 1 name)

-- a compiler takes a file of this name for assembler code to preprocess: it ends in `.S` or `.sx` and is longer
abbrev pub is_assembler : List ℕ → Bool
is_assembler name = ends_with nat_eq (drop 1 name) (codes ".S") || ends_with nat_eq (drop 1 name) (codes ".sx")

-- a name says another language than C
abbrev pub is_other : List ℕ → Bool
is_other name = is_cplusplus name || is_assembler name

-- The name of an input says its language. Where an option says that it is in C, it is one in C or the null device.
abbrev pub is_input : Bool → List ℕ → Bool
is_input as_c name = is_c name || cond as_c (bytes_eq name (codes "/dev/null")) (is_other name)

-- an argument that is no option and no value: a source in C or C++, or assembler code to preprocess
abbrev pub on_input : Asked → List ℕ → State
on_input call argument = cond (is_input call.as_c argument) (with_input call call.input argument) (stop OtherInput)

abbrev pub on_known : Asked → Entry → List ℕ → Option (List ℕ) → State
on_known call option argument (Some rest) = on_option call option.form option.class argument rest
on_known call option argument None = stop UnknownOption

abbrev pub on_found : Asked → Option Entry → List ℕ → State
on_found call (Some option) argument = on_known call option argument (after_name option.name argument)
on_found call None argument = stop UnknownOption

abbrev pub on_dash : List Entry → Asked → List ℕ → State
on_dash table call argument = on_found call (longest table argument) argument

abbrev pub on_value : Asked → Class → List ℕ → State
on_value call class argument = take (keep call class argument) class argument

abbrev pub on_argument : List Entry → Asked → Option Class → List ℕ → State
on_argument table call (Some class) argument = on_value call class argument
on_argument table call None argument = cond (starts_with nat_eq argument (codes "-")) (on_dash table call argument) (on_input call argument)

abbrev pub has_control : List ℕ → Bool
has_control argument = list_any (λ byte. nat_eq byte 10) argument || list_any (λ byte. nat_eq byte 0) argument

-- why a call with this argument is not cached, whatever it is there for
abbrev pub refused : List ℕ → Option Reason
refused argument =
    cond (is_empty argument) (Some EmptyArgument)
    (cond (starts_with nat_eq argument (codes "@")) (Some ResponseFile)
    (cond (has_control argument) (Some ControlCharacter) None))

abbrev pub step_unless : Option Reason → List Entry → Asked → Option Class → List ℕ → State
step_unless (Some reason) table call waiting argument = stop reason
step_unless None table call waiting argument = on_argument table call waiting argument

-- the state after an argument
abbrev pub step : List Entry → Asked → Option Class → List ℕ → State
step table call waiting argument = step_unless (refused argument) table call waiting argument

-- a reason stays
abbrev pub advance : List Entry → State → List ℕ → State
advance table (stop reason) argument = stop reason
advance table (go call waiting) argument = step table call waiting argument

-- a dependency file is asked for in two ways, or something is said of none
abbrev pub is_contrary : Asked → Bool
is_contrary call = cond call.preprocessor_depends call.depends (call.preprocessor_targets || (call.describes && not call.depends))

abbrev pub conclude_with : Asked → Option (List ℕ) → Outcome
conclude_with call None = passed NoInput
conclude_with call (Some input) = cond (not call.compiles) (passed NotCompiling) (cond (is_contrary call) (passed DependencyOptions) (asks call))

abbrev pub conclude : Asked → Outcome
conclude call = conclude_with call call.input

-- what a call asks for, after its last argument
abbrev pub finish : State → Outcome
finish (stop reason) = passed reason
finish (go call (Some class)) = passed MissingValue
finish (go call None) = conclude call

abbrev pub start : Asked
start = record {
  compiles = false;
  input = None;
  output = None;
  depends = false;
  preprocessor_depends = false;
  describes = false;
  targets = false;
  dependency_file = None;
  preprocessor_targets = false;
  as_c = false;
  keyed = [];
}

abbrev pub nothing_asked : State
nothing_asked = go start None

-- what the arguments of a call say
abbrev pub parse : List Entry → List (List ℕ) → Outcome
parse table arguments = finish (fold (advance table) nothing_asked arguments)
