-- the listing of a script
use Rattle.std.specs.Prelude.{◌≡◌, ℕ, ℤ, List, [], ◌∷◌, ◌++◌, length}
use Rattle.std.specs.List.{AllZip, enumerate_from, flat_map}
use Rattle.cck_hasher.specs.Call.{CallResult, Done}
use Rattle.cck_hasher.specs.Step.{Run}
use Rattle.cck_hasher.specs.World.{World, setting}
use Rattle.cck_command.specs.Run.{IsRequested, Ran, result_line, run_world}
use Rattle.cck_path.specs.Bytes.{Bytes}
use Rattle.cck_script.specs.Calls.{ScriptCallValue, script_calls}
use Rattle.cck_script.specs.Lines.{Line}
use Rattle.cck_command.specs.Script.{zone_of}
use Rattle.cck_util.specs.MapStore.{State, map_store}
use Rattle.cck_util.specs.Store.{counted}
use Rattle.jiff.specs.Types.{Offset}
use Rattle.cck_explain.specs.Note.{IsNote}

-- for each call a note of what it did, and the line of its result
abbrev pub noted : List Bytes → List CallResult → Bytes
noted [] call_results = []
noted (note ∷ notes) [] = []
noted (note ∷ notes) (call_result ∷ call_results) = note ++ result_line call_result ++ noted notes call_results

-- the note of the call of this number: its files are judged as they are in the call
abbrev pub IsNoteOf : World ℤ → ℕ × Done ℤ → Bytes → Type 0
IsNoteOf w (number, d) note = IsNote (setting w d.call) d.call.files (counted number) d.call.request.arguments.input note

-- These calls were made one after another, in a zone with this offset, from the store `start` to the store `end`. For each a note and the
-- line of its result are listed.
pub record AreNoted (hash : Bytes → Bytes) (zone : ℤ) (w : World ℤ) (asked : List ScriptCallValue) (start end : State) (listing : Bytes) : Type 0 where
  pub done : List (Done ℤ)
  pub call_results : List CallResult
  pub calls : AllZip (IsRequested hash zone) asked done
  pub run : Run w map_store start done call_results end
  pub notes : List Bytes
  pub count : length notes ≡ length call_results
  pub each : AllZip (IsNoteOf w) (enumerate_from 1 done) notes
  pub listed : listing ≡ noted notes call_results

-- The listing of these lines: for each call that they ask for its note, which has its number, and the line that `cck run` prints for its
-- result.
pub record IsScriptListing (hash : Bytes → Bytes) (lines : List Line) (listing : Bytes) : Type 0 where
  pub call_results : List CallResult
  pub ran : Ran hash lines (flat_map result_line call_results)
  pub zone : Offset
  pub zone_is : zone.seconds ≡ zone_of lines
  pub done : List (Done ℤ)
  pub calls : AllZip (IsRequested hash (zone_of lines)) (script_calls lines) done
  pub notes : List Bytes
  pub count : length notes ≡ length call_results
  pub each : AllZip (IsNoteOf (run_world hash zone lines)) (enumerate_from 1 done) notes
  pub listed : listing ≡ noted notes call_results
