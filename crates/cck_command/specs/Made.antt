-- calls of a run, before and after they are made
use Rattle.std.specs.Prelude.{◌≡◌, ℤ, ◌++◌, List, codes, string_bytes}
use Rattle.std.specs.List.{AllZip, flat_map}
use Rattle.cck_compiler.specs.Compiler.{Compilation}
use Rattle.cck_compiler.specs.Seen.{arguments_of}
use Rattle.cck_compiler.specs.ExtraFiles.{completed}
use Rattle.cck_path.specs.Bytes.{Bytes, variables_of}
use Rattle.cck_digest.specs.Digest.{digest_text}
use Rattle.cck_files.specs.ArmedCalls.{IsUnarmed}
use Rattle.cck_files.specs.FileState.{FileState}
use Rattle.cck_script.specs.Calls as script
use Rattle.cck_script.specs.Surroundings.{AreFiles, executable_path, variables, working_directory}
use Rattle.cck_hasher.specs.Call.{CallResult, Done}
use Rattle.cck_hasher.specs.Step.{Run}
use Rattle.cck_hasher.specs.World.{World}
use Rattle.c_cache_keys.specs.declared.c_compiler.CCompiler.{CCompiler}
use Rattle.c_cache_keys.specs.declared.calls.Call.{Call}
use Rattle.cck_util.specs.MapStore.{State, map_store}
use Rattle.cck_command.specs.MiniCompiler.{parsed}
use Rattle.cck_command.specs.Run.{IsRequested, result_line, control_of}
use Rattle.cck_command.specs.declared.mini_compiler.MiniCompiler.{MiniCompiler}

-- the compiler of a run, in a zone of this offset, with the digest of its executable
pub record IsRunCompiler (hash : Bytes → Bytes) (zone : ℤ) (c : CCompiler MiniCompiler) : Type 0 where
  pub zone_is : c.compiler.zone_offset ≡ zone
  pub executable : c.executable.items ≡ executable_path
  pub executable_digest : string_bytes c.executable_digest ≡ digest_text hash (codes "cc")

-- this call is what a script asks for, with this compiler, and no call on its files fails
pub record IsReady (c : CCompiler MiniCompiler) (asked : script.ScriptCallValue) (made : Call MiniCompiler FileState) : Type 0 where
  pub zone_is : made.hasher.compiler.zone_offset ≡ c.compiler.zone_offset
  pub executable : made.hasher.executable.items ≡ c.executable.items
  pub executable_digest : string_bytes made.hasher.executable_digest ≡ string_bytes c.executable_digest
  pub arguments : completed made.files.files (variables asked.earlier) (parsed asked.arguments) ≡ Compilation (arguments_of made.hasher.parsed_args)
  pub cwd : made.cwd.items ≡ working_directory
  pub env_vars : variables_of made.vars.items ≡ variables asked.earlier
  pub files : AreFiles asked.earlier made.files.files
  pub moment : made.moment ≡ asked.moment
  pub control : made.control ≡ control_of asked.is_recache
  pub no_fault : made.files.faults ≡ 0
  pub unarmed : IsUnarmed made.files.armed

-- these calls were made one after another, in a zone with this offset, from the store `start` to the store `end`, and
-- their lines were appended to `before`
pub record AreMade (hash : Bytes → Bytes) (zone : ℤ) (w : World ℤ) (asked : List script.ScriptCallValue) (start end : State) (before after : Bytes) : Type 0 where
  pub done : List (Done ℤ)
  pub call_results : List CallResult
  pub calls : AllZip (IsRequested hash zone) asked done
  pub run : Run w map_store start done call_results end
  pub printed_are : after ≡ before ++ flat_map result_line call_results
