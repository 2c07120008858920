-- why a call is not cached
use Rattle.std.specs.Prelude.{ℕ, List, codes}
use Rattle.cck_cache_options.specs.declared.reason.Reason.{Reason}
use Rattle.cck_cache_options.specs.declared.reason.Reason.TheVariants.{ResponseFile, EmptyArgument, ControlCharacter, UnknownOption, PassedOption, MissingValue, OtherInput, TwoInputs, NoInput, TwoOutputs, TwoDependencyFiles, DependencyOptions, NotCompiling}
use Rattle.cck_cache_options.specs.declared.table.Cause.{Cause}
use Rattle.cck_cache_options.specs.declared.table.Cause.TheVariants.{Mode, DependencyList, PreprocessorOption, AssemblerOption, Inputs, LinkTimeOptimization, Native, Profile, Precompiled, FurtherOutput, RecordedSwitches, OtherPrograms}

-- the names under which calls that are passed on are counted

abbrev pub cause_name : Cause → List ℕ
cause_name Mode = codes "mode"
cause_name DependencyList = codes "dependencies"
cause_name PreprocessorOption = codes "preprocessor-option"
cause_name AssemblerOption = codes "assembler-option"
cause_name Inputs = codes "inputs"
cause_name LinkTimeOptimization = codes "link-time-optimization"
cause_name Native = codes "native"
cause_name Profile = codes "profile"
cause_name Precompiled = codes "precompiled"
cause_name FurtherOutput = codes "further-output"
cause_name RecordedSwitches = codes "recorded-switches"
cause_name OtherPrograms = codes "other-programs"

abbrev pub reason_name : Reason → List ℕ
reason_name ResponseFile = codes "response-file"
reason_name EmptyArgument = codes "empty-argument"
reason_name ControlCharacter = codes "control-character"
reason_name UnknownOption = codes "unknown-option"
reason_name (PassedOption cause) = cause_name cause
reason_name MissingValue = codes "missing-value"
reason_name OtherInput = codes "inputs"
reason_name TwoInputs = codes "inputs"
reason_name NoInput = codes "no-input"
reason_name TwoOutputs = codes "outputs"
reason_name TwoDependencyFiles = codes "dependencies"
reason_name DependencyOptions = codes "dependencies"
reason_name NotCompiling = codes "no-c"
