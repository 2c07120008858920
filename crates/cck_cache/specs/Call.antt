-- the compilation that a call of a compiler asks for, and the paths of its files
use Rattle.std.specs.Prelude.{◌≡◌, ◌++◌, ◌∷◌, ◌⊎◌, [], cond, not, ◌&&◌, List, Bool, true, false, Option, Some, None, IfSome, IsUtf8, codes, flat_map, string_bytes}
use Rattle.std.specs.Option.{option_map}
use Rattle.cck_cache.specs.declared.call.CallPaths.{CallPaths}
use Rattle.cck_cache_options.specs.Call.{Asked}
use Rattle.cck_cache_options.specs.Paths.{IsDependencyPath, IsObjectPath}
use Rattle.cck_cache_options.specs.Quote.{command, preprocessor_command}
use Rattle.cck_cache_options.specs.Definition.{is_definition, macro_option}
use Rattle.cck_cache_options.specs.declared.call.Call.{Call}
use Rattle.cck_cache_options.specs.declared.call.Keyed.{Keyed}
use Rattle.cck_cache_options.specs.declared.table.Class.{Class}
use Rattle.cck_cache_options.specs.declared.compiler_call.CompilerCall.{CompilerCall}
use Rattle.cck_cache_files.specs.declared.request.Request.{Request}
use Rattle.cck_path.specs.Bytes.{Bytes, lists_of}

-- the path of the object is the target of the rule in the dependency file of the compiler, where no option says another one
abbrev pub target_arguments : Bool → Bool → Bytes → List Bytes
target_arguments depends targets output = cond (depends && not targets) (codes "-MQ" ∷ output ∷ []) []

-- an option of this class is one of those that define or undefine macros, or one of the others
abbrev pub is_among : Bool → Class → Bool
is_among true class = is_definition class
is_among false class = not (is_definition class)

abbrev pub one_among : Bool → Keyed → List Bytes
one_among defines one = cond (is_among defines one.class) (one.argument.now ∷ []) []

-- the arguments that define or undefine macros
abbrev pub definitions_of : Call → List Bytes
definitions_of asked = flat_map (one_among true) asked.keyed.items

-- the other arguments that count in keys
abbrev pub counted_arguments : Call → Bytes → List Bytes
counted_arguments asked output = flat_map (one_among false) asked.keyed.items ++ target_arguments asked.depends asked.targets output

-- the compilation of a call that runs these programs: that of its input and its directory, by those of its arguments that count
pub record IsCallRequest (call : CompilerCall) (programs : Bytes) (asked : Call) (paths : CallPaths) (request : Request) : Type 0 where
  pub compiler : string_bytes request.compiler ≡ programs
  pub directory : request.directory ≡ call.directory
  pub input : request.input ≡ paths.input
  pub arguments : lists_of request.arguments.items ≡ counted_arguments asked (string_bytes paths.output)
  pub definitions : lists_of request.definitions.items ≡ definitions_of asked
  pub digests : request.digests ≡ call.digests
  pub base : request.base ≡ call.base

-- the path of the object: the one that the call has, or the one that the compiler chooses for the input
abbrev pub IsOutput : Option Bytes → Bytes → Bytes → Type 0
IsOutput (Some given) input path = path ≡ given
IsOutput None input path = IsObjectPath input path

-- the path of the dependency file of a call that has one, or of one that writes it where the compiler chooses
abbrev pub AreChosen : Option Bytes → Bool → Bytes → Option Bytes → Type 0
AreChosen (Some given) depends output path = path ≡ Some given
AreChosen None true output path = (chosen : Bytes) × (path ≡ Some chosen) × IsDependencyPath output chosen
AreChosen None false output path = path ≡ None

abbrev pub AreDependencies : Asked → Bytes → Option Bytes → Type 0
AreDependencies call output path = AreChosen call.dependency_file call.depends output path

-- the paths of a call
pub record AreBytePaths (call : Asked) (input output : Bytes) (dependencies : Option Bytes) : Type 0 where
  pub input_is : call.input ≡ Some input
  pub output_is : IsOutput call.output input output
  pub dependencies_are : AreDependencies call output dependencies

abbrev pub AreUtf8 : Bytes → Bytes → Option Bytes → Type 0
AreUtf8 input output dependencies = IsUtf8 input × IsUtf8 output × IfSome dependencies IsUtf8

-- these texts have these bytes
pub record AreTexts (input output : Bytes) (dependencies : Option Bytes) (paths : CallPaths) : Type 0 where
  pub input_is : paths.input.now ≡ input
  pub output_is : string_bytes paths.output ≡ output
  pub dependencies_are : option_map string_bytes paths.dependencies ≡ dependencies

abbrev pub ArePaths : Asked → CallPaths → Type 0
ArePaths call paths = AreBytePaths call paths.input.now (string_bytes paths.output) (option_map string_bytes paths.dependencies)

-- the paths of a call are not UTF-8
pub record HasNoTexts (call : Asked) : Type 0 where
  pub input : Bytes
  pub output : Bytes
  pub dependencies : Option Bytes
  pub are : AreBytePaths call input output dependencies
  pub no_texts : ¬ (AreUtf8 input output dependencies)

-- a call has no input, or its paths are not UTF-8
abbrev pub HasNoPaths : Asked → Type 0
HasNoPaths call = (call.input ≡ None) ⊎ HasNoTexts call

abbrev pub bytes_or_none : Option Bytes → Bytes
bytes_or_none None = []
bytes_or_none (Some bytes) = bytes

-- the paths of a call, that of no dependency file empty, and the programs that it runs
abbrev pub call_paths : CallPaths → Bytes → List Bytes
call_paths paths programs = paths.input.now ∷ string_bytes paths.output ∷ bytes_or_none (option_map string_bytes paths.dependencies) ∷ programs ∷ []

-- what a shell is given of a call: a line with these and the option by which the preprocessor shows macros, and one with the arguments of the preprocessor
abbrev pub call_lines : Asked → CallPaths → Bytes → Bytes
call_lines call paths programs = command (call_paths paths programs ++ macro_option call.keyed ∷ []) ++ 10 ∷ preprocessor_command call.keyed ++ 10 ∷ []
