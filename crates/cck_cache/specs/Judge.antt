-- what a call of a compiler asks for, or why it is not cached, by its arguments
use Rattle.std.specs.Prelude.{◌≡◌, List, codes}
use Rattle.std.specs.List.{Any}
use Rattle.cck_cache.specs.Call.{ArePaths, HasNoPaths}
use Rattle.cck_cache.specs.declared.judge.Judged.{Judged}
use Rattle.cck_cache.specs.declared.judge.Judged.TheVariants.{Asks, PassedOn}
use Rattle.cck_cache.specs.declared.judge.Passed.{Passed}
use Rattle.cck_cache.specs.declared.judge.Passed.TheVariants.{Variable, Programs, Compiler, Arguments, HeaderTest, ResponseFile, Path, Output}
use Rattle.cck_cache.specs.Response.{MayNameArguments}
use Rattle.cck_cache_text.specs.Argument.{MayAskForFile}
use Rattle.cck_cache_options.specs.Call.{Asked, asks, call_of, parse, passed}
use Rattle.cck_cache_options.specs.Reason.{reason_name}
use Rattle.cck_cache_options.specs.Table.{Entry}
use Rattle.cck_path.specs.Bytes.{Bytes}

-- the name under which a call that is passed on is counted
abbrev pub passed_name : Passed → Bytes
passed_name Variable = codes "variable"
passed_name Programs = codes "programs-unknown"
passed_name Compiler = codes "compiler"
passed_name (Arguments reason) = reason_name reason
passed_name HeaderTest = codes "header-test"
passed_name ResponseFile = codes "response-file"
passed_name Path = codes "path"
passed_name Output = codes "output"

-- an argument may make a source depend on a file that it does not include
abbrev pub AskForFile : List Bytes → Type 0
AskForFile arguments = Any MayAskForFile arguments

-- an argument may name a file of arguments of a program that the compiler runs
abbrev pub NameArguments : List Bytes → Type 0
NameArguments arguments = Any MayNameArguments arguments

-- A call is cached if its arguments ask for something, by the table, none may make a source depend on another file or name a file of arguments, and
-- its paths are texts. Else it is passed on, and the reason is the first of these that does not hold. What is at the paths is no matter here, nor are the variables and
-- the programs.
abbrev pub IsJudged : List Entry → List Bytes → Judged → Type 0
IsJudged table arguments (Asks call paths) = (parse table arguments ≡ asks (call_of call)) × ¬ (AskForFile arguments) × ¬ (NameArguments arguments) × ArePaths (call_of call) paths
IsJudged table arguments (PassedOn (Arguments reason)) = parse table arguments ≡ passed reason
IsJudged table arguments (PassedOn HeaderTest) = (call : Asked) × (parse table arguments ≡ asks call) × AskForFile arguments
IsJudged table arguments (PassedOn ResponseFile) = (call : Asked) × (parse table arguments ≡ asks call) × ¬ (AskForFile arguments) × NameArguments arguments
IsJudged table arguments (PassedOn Path) = (call : Asked) × (parse table arguments ≡ asks call) × ¬ (AskForFile arguments) × ¬ (NameArguments arguments) × HasNoPaths call
IsJudged table arguments (PassedOn Output) = ⊥
IsJudged table arguments (PassedOn Variable) = ⊥
IsJudged table arguments (PassedOn Programs) = ⊥
IsJudged table arguments (PassedOn Compiler) = ⊥
