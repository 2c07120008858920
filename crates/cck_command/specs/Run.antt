-- what `run` prints for a script
use Rattle.std.specs.Prelude.{◌≡◌, ℕ, ℤ, ◌++◌, List, [], ◌∷◌, Bool, true, false, codes}
use Rattle.std.specs.Fmt.{decimal}
use Rattle.std.specs.List.{AllZip, flat_map}
use Rattle.std.specs.Option.{unwrap_or}
use Rattle.cck_compiler.specs.Compiler.{Compilation}
use Rattle.cck_compiler.specs.ExtraFiles.{completed}
use Rattle.cck_files.specs.ArmedCalls.{new_armed}
use Rattle.cck_path.specs.Bytes.{Bytes}
use Rattle.cck_util.specs.MapStore.{State, map_store, empty_state}
use Rattle.jiff.specs.Words.{fixed_zone}
use Rattle.jiff.specs.Types.{Offset}
use Rattle.cck_digest.specs.Digest.{digest_text}
use Rattle.cck_script.specs.Calls.{script_calls}
use Rattle.cck_script.specs.Surroundings.{AreFiles, executable_path, variables, working_directory}
use Rattle.cck_script.specs.Calls as script
use Rattle.cck_script.specs.Lines.{Line}
use Rattle.cck_command.specs.Script.{basedirs_of, fail_of, forget_of, zone_of}
use Rattle.cck_include.specs.Config.{activated}
use Rattle.cck_hasher.specs.Call.{CallResult, Done, Keyed, ReturnsError, calls_of, Why, Memory, Extra, ExtraFault, Input, InputFault, Store, Damaged, NoText, TextFault, Marker}
use Rattle.c_cache_keys.specs.Laws.{AllReturnStored, IsTransparent}
use Rattle.c_cache_keys.specs.Premises.{Premises}
use Rattle.cck_hasher.specs.Step.{Run}
use Rattle.cck_hasher.specs.World.{World, world_of}
use Rattle.cck_hasher.specs.declared.call.CacheControl.{CacheControl}
use Rattle.cck_hasher.specs.declared.call.CacheControl.TheVariants.{Default, ForceRecache}
use Rattle.cck_command.specs.MiniCompiler.{mini_compiler, parsed}

-- ---- results of calls

-- the number of an error
abbrev pub error_number : Why → ℕ
error_number Memory = 1
error_number Extra = 2
error_number ExtraFault = 2
error_number Input = 3
error_number InputFault = 3
error_number Store = 4
error_number Damaged = 5
error_number NoText = 6
error_number TextFault = 6
error_number Marker = 7

-- the line for the result of a call: a stored key, a computed key, or an error
abbrev pub result_line : CallResult → Bytes
result_line (Keyed key false) = codes "hit " ++ key ++ 10 ∷ []
result_line (Keyed key true) = codes "miss " ++ key ++ 10 ∷ []
result_line (ReturnsError why) = codes "error " ++ decimal (error_number why) ++ 10 ∷ []

-- ---- calls

abbrev pub control_of : Bool → CacheControl
control_of true = ForceRecache
control_of false = Default

-- a call that was made is the one that a script asks for, in a zone with this offset, and no call on its files failed
pub record IsRequested (hash : Bytes → Bytes) (zone : ℤ) (asked : script.ScriptCallValue) (done : Done ℤ) : Type 0 where
  pub compiler : done.call.request.compiler ≡ zone
  pub executable : done.call.request.executable ≡ executable_path
  pub executable_digest : done.call.request.executable_digest ≡ digest_text hash (codes "cc")
  pub arguments : completed done.call.files (variables asked.earlier) (parsed asked.arguments) ≡ Compilation done.call.request.arguments
  pub cwd : done.call.request.cwd ≡ working_directory
  pub env_vars : done.call.request.env_vars ≡ variables asked.earlier
  pub files : AreFiles asked.earlier done.call.files
  pub moment : done.call.moment ≡ asked.moment
  pub control : done.call.control ≡ control_of asked.is_recache
  pub no_fault : (done.faults_before ≡ 0) × (done.faults_after ≡ 0)

-- ---- the run

-- what the keys of these lines depend on besides the calls
abbrev pub run_world : (Bytes → Bytes) → Offset → List Line → World ℤ
run_world hash zone lines = world_of hash mini_compiler (fixed_zone zone) activated (basedirs_of lines)

-- a new store, armed as these lines say
abbrev pub armed_by : List Line → State
armed_by lines = record empty_state { forget = unwrap_or (forget_of lines) 0; armed = record new_armed { one = unwrap_or (fail_of lines) 0 } }

-- This is printed for a run over the calls of these lines. The headline holds for all of them: under the premises each key is its call's
-- plain key, and without them each stored key that matches is returned. It is not said that a script meets the premises: the small
-- compiler violates `DeterministicPreprocessor` on some scripts. It reads an included file at its joined path, but the file at the normal path is
-- recorded. The two paths differ where the name has a `..` in it.
pub record Ran (hash : Bytes → Bytes) (lines : List Line) (printed : Bytes) : Type 0 where
  pub zone : Offset
  pub zone_is : zone.seconds ≡ zone_of lines
  pub done : List (Done ℤ)
  pub call_results : List CallResult
  pub end : State
  pub calls : AllZip (IsRequested hash (zone_of lines)) (script_calls lines) done
  pub run : Run (run_world hash zone lines) map_store (armed_by lines) done call_results end
  pub headline : Premises (run_world hash zone lines) (calls_of done) → AllZip (IsTransparent (run_world hash zone lines)) (calls_of done) call_results
  pub returned : AllReturnStored (run_world hash zone lines) map_store (armed_by lines) done call_results end
  pub printed_are : printed ≡ flat_map result_line call_results

-- what is printed for a script whose first wrong line has this number
abbrev pub wrong_text : ℕ → Bytes
wrong_text number = codes "cck: line " ++ decimal number ++ 10 ∷ []
