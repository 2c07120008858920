-- recordings over a snapshot
use Rattle.std.specs.Prelude.{◌≡◌, ◌≢◌, true, Option, Some, None, option_map, string_bytes}
use Rattle.cck_files.specs.FileMap.{FileMap}
use Rattle.cck_digest.specs.declared.key_error.KeyError.{KeyError}
use Rattle.cck_path.specs.Bytes.{Bytes}
use Rattle.cck_util.specs.MapStore.{State, map_store, empty_state}
use Rattle.cck_hasher.specs.Call.{CallResult, Keyed, Memory, NoText, ReturnsError, TextFault, Why}
use Rattle.cck_hasher.specs.Keys.{printed}
use Rattle.cck_hasher.specs.Seen.{why_of}
use Rattle.cck_hasher.specs.Step.{Step}
use Rattle.cck_hasher.specs.declared.call.CacheControl.TheVariants.{ForceRecache}
use Rattle.c_cache_keys.specs.External.{Prints}
use Rattle.c_cache_keys.specs.Requests.{call_for, world_for}
use Rattle.c_cache_keys.specs.Snapshot.{one_pair}
use Rattle.c_cache_keys.specs.declared.requests.SnapshotRequest.{SnapshotRequest}
use Rattle.c_cache_keys.specs.declared.recordings.Recording.{Recording}
use Rattle.c_cache_keys.specs.declared.recordings.RecordedEntry.{RecordedEntry}

-- the key of a result, stored or computed
abbrev pub key_of : CallResult → Option Bytes
key_of (Keyed key fresh) = Some key
key_of (ReturnsError why) = None

-- the error is not that there is no text
abbrev pub HasText : Why → Type 0
HasText why = (why ≢ NoText) × (why ≢ TextFault)

-- the result of a call to which a text was given: where it is missing memory is lacking
abbrev pub given_text : CallResult → CallResult
given_text (Keyed key fresh) = Keyed key fresh
given_text (ReturnsError NoText) = ReturnsError Memory
given_text (ReturnsError TextFault) = ReturnsError Memory
given_text (ReturnsError why) = ReturnsError why

-- a store in memory that was just made and into which this was put, if there is something
abbrev pub state_with : Option (Bytes × Bytes) → State
state_with None = empty_state
state_with (Some (k, bytes)) = one_pair k bytes

abbrev pub entry_pair : RecordedEntry → Bytes × Bytes
entry_pair entry = (string_bytes entry.preprocessor_key, entry.bytes.items)

module _ (hash : Bytes → Bytes) (files : FileMap) (r : SnapshotRequest) (F : Type 0) (text : Bytes) where
  -- this text is printed for the call
  abbrev pub PrintsText : Prints → Type 0
  PrintsText prints = printed (world_for hash prints r) (call_for ForceRecache files r) ≡ Some text

  -- The call, which may not return a stored key, on a store that holds nothing: in each world that prints the text.
  abbrev pub Records : CallResult → State → Type 0
  Records a t = (prints : Prints) → PrintsText prints → Step (world_for hash prints r) map_store (call_for ForceRecache files r) F empty_state a t

  -- The result of a recording: a computed key, and what is put. F says that there was a fault.
  abbrev pub IsRecording : Recording → Type 0
  IsRecording recording = Records (Keyed (string_bytes recording.key) true) (state_with (option_map entry_pair recording.put))

  -- the error of a recording, which puts nothing
  abbrev pub IsRecordingError : KeyError → Type 0
  IsRecordingError e = HasText (why_of e) × Records (ReturnsError (why_of e)) empty_state
