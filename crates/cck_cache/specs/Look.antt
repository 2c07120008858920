-- what a look-up finds
use Rattle.std.specs.Prelude.{◌≡◌, ◌<◌, ◌⊎◌, ℕ, List, [], Bool, true, false, Option, Some, None, IfSome, String, string_bytes}
use Rattle.std.specs.Global.{Vec}
use Rattle.std.specs.Option.{option_or}
use Rattle.std.specs.FinMap.{empty}
use Rattle.std.specs.declared.alloc.Global.{Global}
use Rattle.cck_cache.specs.Included.{IsIncluded}
use Rattle.cck_cache.specs.Input.{IsCalm, NoFault}
use Rattle.cck_cache.specs.Naming.{IsName}
use Rattle.cck_cache.specs.Outputs.{has_outputs}
use Rattle.cck_cache.specs.Request.{HasPreprocessorKey, IsKeyOver, IsRequest}
use Rattle.cck_cache.specs.declared.environment.Environment.{Environment}
use Rattle.cck_cache.specs.declared.look.Found.{Found}
use Rattle.cck_cache.specs.declared.look.Found.TheVariants.{Hit, Miss, NoKey}
use Rattle.cck_cache.specs.declared.look.LookUp.{LookUp}
use Rattle.cck_cache.specs.declared.look.Looked.{Looked}
use Rattle.cck_cache.specs.declared.look.Looked.TheVariants.{Object, Missed}
use Rattle.cck_cache.specs.declared.look.Missed as missed
use Rattle.cck_cache.specs.declared.look.Kept.{Kept}
use Rattle.cck_cache.specs.declared.look.Kept.TheVariants.{Nothing, Damaged, Entry as KeptEntry}
use Rattle.cck_cache_rules.specs.Contents.{ReadsFor, key_of_entry, key_of_object}
use Rattle.cck_cache_rules.specs.Files.{EntryFields, IsEntryFile, entry_fields, entry_file, object_fields, object_file}
use Rattle.cck_cache_rules.specs.PathStatus.{Status}
use Rattle.cck_cache_rules.specs.PathTest.{Test}
use Rattle.cck_cache_rules.specs.Reading.{IsAny}
use Rattle.cck_cache_rules.specs.declared.object_file.ObjectFile.{ObjectFile}
use Rattle.cck_cache_files.specs.EntryNames.{entry_files}
use Rattle.cck_cache_files.specs.PathStatuses.{AreAsRecorded}
use Rattle.cck_cache_files.specs.PathTests.{IsFirstFailing}
use Rattle.cck_cache_files.specs.Snapshot.{ArePut, IsPart}
use Rattle.cck_cache_files.specs.declared.store_directory.Kind.{Kind}
use Rattle.cck_cache_files.specs.declared.store_directory.Kind.TheVariants as kind
use Rattle.cck_cache_store.specs.Given.{IsGiven}
use Rattle.cck_cache_store.specs.declared.given.Given.TheVariants as given
use Rattle.cck_cache_files.specs.declared.request.Request.{Request}
use Rattle.cck_cache.specs.declared.wanted.Look.{Look}
use Rattle.cck_cache_options.specs.declared.task.Outputs.{Outputs}
use Rattle.cck_cache_options.specs.declared.task.Server.{Server}
use Rattle.cck_entry.specs.Entry.{Entry, EntryText}
use Rattle.cck_entry.specs.Statuses.{Statuses}
use Rattle.cck_files.specs.FileMap.{FileMap}
use Rattle.cck_path.specs.Bytes.{Bytes}
use Rattle.cck_util.specs.MapStore.{State, map_store}
use Rattle.cck_hasher.specs.Call.{Keyed}
use Rattle.cck_hasher.specs.declared.call.CacheControl.TheVariants.{Default}
use Rattle.cck_hasher.specs.declared.hasher.opening.PreprocessorKey.{PreprocessorKey}
use Rattle.c_cache_keys.specs.External.{Prints}
use Rattle.c_cache_keys.specs.Requests.{call_for, world_for}
use Rattle.c_cache_keys.specs.Snapshot.{one_pair}
use Rattle.c_cache_keys.specs.Statuses.{AsksWith}
use Rattle.c_cache_keys.specs.declared.requests.SnapshotRequest.{SnapshotRequest}
use Rattle.sha2.specs.Sha256.{sha256}

-- a store keeps what the server that is asked has
abbrev pub keeps : Option Server → Bool
keeps None = false
keeps (Some server) = server.keeps

-- The object key that is returned from an entry whose text is held under a preprocessor key, over files that have grown by those that the entry names.
-- Whatever a preprocessor prints, there is a call that asks a store that holds this text, with these statuses of included files, and returns the key.
-- Each status has the times that are recorded of its path, and where all files are read there are none. That the system says the same now no clause
-- can say.
pub record IsMatch (reads_all : Bool) (asked : SnapshotRequest) (input : FileMap) (key bytes : Bytes) (recorded : List Status) (entry : Entry) (object : Bytes) : Type 0 where
  pub files : FileMap
  pub grown : ArePut (IsIncluded entry) input files
  pub kept : IsPart input files
  pub statuses : Statuses
  pub are_recorded : AreAsRecorded recorded statuses
  pub read : reads_all ≡ true → statuses ≡ empty
  pub found : (prints : Prints)
      → (t : State) × AsksWith (world_for sha256 prints asked) map_store statuses (call_for Default files asked) NoFault (one_pair key bytes) (Keyed object false) t

-- An entry of these bytes has a key that is returned so, by statuses that are recorded, after all of these tests held. The object of the key has this
-- name, by the recorded digest of the input and the tests.
pub record IsNamedMatch (reads_all : Bool) (request : Request) (asked : SnapshotRequest) (input : FileMap) (key : PreprocessorKey) (bytes : Bytes) (recorded : List Status) (tests : List Test) (name : String Global) : Type 0 where
  pub held : IsFirstFailing tests None
  pub entry : Entry
  pub is_entry : EntryText entry bytes
  pub object : Bytes
  pub matched : IsMatch reads_all asked input (string_bytes key.text) bytes recorded entry object
  pub is_name : IsName request (string_bytes key.input_digest) entry tests object (string_bytes name)

-- the same of an entry file of this key
abbrev pub IsNameOfKey : Bool → Request → SnapshotRequest → FileMap → String Global → String Global → Type 0
IsNameOfKey reads_all request asked input key name =
    (file : EntryFields) × (file.preprocessor_key ≡ string_bytes key)
    × ((own : PreprocessorKey) × (own.text ≡ key) × IsKeyOver asked input own × IsNamedMatch reads_all request asked input own file.entry file.statuses file.tests name)

-- what a store has of a preprocessor key: an entry is of this key
abbrev pub IsKeyEntry : Bytes → Kept → Type 0
IsKeyEntry key Nothing = Unit {0}
IsKeyEntry key Damaged = Unit {0}
IsKeyEntry key (KeptEntry file) = file.preprocessor_key.items ≡ key

-- what the bytes of an entry file hold of a preprocessor key
abbrev pub IsKeptIn : Bytes → Bytes → Kept → Type 0
IsKeptIn key bytes Nothing = ⊥
IsKeptIn key bytes Damaged = ReadsFor IsEntryFile key_of_entry entry_file key bytes None
IsKeptIn key bytes (KeptEntry file) = ReadsFor IsEntryFile key_of_entry entry_file key bytes (Some (entry_fields file))

-- a look-up by an entry file begins with the preprocessor key of its request over the snapshot of the input
pub record IsLookUp (lookup : LookUp) : Type 0 where
  pub calm : IsCalm lookup.files.now
  pub is_request : IsRequest lookup.environment.now lookup.wanted.now.request lookup.environment.now.now [] lookup.asked.now
  pub is_key : IsKeyOver lookup.asked.now lookup.files.now.files lookup.key.now

-- a name of an object of the preprocessor key of a look-up
abbrev pub IsNameOf : LookUp → String Global → Type 0
IsNameOf lookup =
    IsNameOfKey lookup.environment.now.reads_all lookup.wanted.now.request lookup.asked.now lookup.files.now.files lookup.key.now.text

-- nothing was found but this name
abbrev pub IsMissed : Option (String Global) → Looked → Type 0
IsMissed name (Object place n object) = ⊥
IsMissed name (Missed missed) = missed.object_name ≡ name

-- no object was found, and this file is damaged, and this value has not the right signature
abbrev pub IsWrong : Option (String Global) → Option (String Global) → Looked → Type 0
IsWrong damaged forged (Object place n object) = ⊥
IsWrong damaged forged (Missed missed) = (missed.damaged ≡ damaged) × (missed.forged ≡ forged)

-- what was found in two places: in each part the first that there is
pub record AreJoined (before one all : missed.Missed) : Type 0 where
  pub object_name : all.object_name ≡ option_or before.object_name one.object_name
  pub damaged : all.damaged ≡ option_or before.damaged one.damaged
  pub forged : all.forged ≡ option_or before.forged one.forged

-- What these bytes hold of the object of a name. This file is damaged exactly if they are not an object file of the name.
abbrev pub IsObjectIn : Outputs → Bytes → Bytes → String Global → Looked → Type 0
IsObjectIn outputs name bytes file (Object place n object) = ReadsFor IsAny key_of_object object_file name bytes (Some (object_fields object))
IsObjectIn outputs name bytes file (Missed missed) =
    (missed.forged ≡ None)
    × (((missed.damaged ≡ Some file) × ReadsFor IsAny key_of_object object_file name bytes None)
    ⊎ ((missed.damaged ≡ None) × ((object : ObjectFile) × ReadsFor IsAny key_of_object object_file name bytes (Some (object_fields object)) × (has_outputs outputs object ≡ false))))

-- What a server gave under the name of an object. An object is of a value that was tested with this key of signatures, and none is forged but one that the key did
-- not sign.
abbrev pub IsGivenObject : (Kind → Bytes → Bytes → Type 0) → Option Bytes → Bytes → Looked → Type 0
IsGivenObject Has key name (Object place n object) =
    (file : Vec ℕ) × IsGiven (Has kind.Object name) key kind.Object name (given.File file) × ReadsFor IsAny key_of_object object_file name file.items (Some (object_fields object))
IsGivenObject Has key name (Missed missed) = IfSome missed.forged (λ (value : String Global). IsGiven (Has kind.Object name) key kind.Object name given.Forged)

-- an object was found by an entry file that the server has of a preprocessor key, of a value that was tested in the same way
abbrev pub IsGivenEntry : (Kind → Bytes → Bytes → Type 0) → Option Bytes → Bytes → Looked → Type 0
IsGivenEntry Has key name (Object place n object) =
    (file : Vec ℕ) × IsGiven (Has kind.Entry name) key kind.Entry name (given.File file)
    × ((fields : EntryFields) × ReadsFor IsEntryFile key_of_entry entry_file name file.items (Some fields))
IsGivenEntry Has key name (Missed missed) = Unit {0}

-- what was found under the name of an object of the entry file at a place, if it has one
abbrev pub IsKeptObject : Outputs → Option ℕ → String Global → Looked → Type 0
IsKeptObject outputs place name (Object p n object) =
    (p ≡ place) × (n ≡ name) × (object.key.items ≡ string_bytes name) × (has_outputs outputs object ≡ true)
IsKeptObject outputs place name (Missed missed) = missed.object_name ≡ Some name

-- a place of an entry file, if there is one
abbrev pub IsPlace : Option ℕ → Type 0
IsPlace place = IfSome place (λ (p : ℕ). p < entry_files)

-- what was found by one entry file or by some
abbrev pub IsLooked : LookUp → Looked → Type 0
IsLooked lookup (Object place name object) =
    IsPlace place × IsNameOf lookup name × (object.key.items ≡ string_bytes name) × (has_outputs lookup.wanted.now.outputs object ≡ true)
IsLooked lookup (Missed missed) = IfSome missed.object_name (IsNameOf lookup)

-- what was found for a preprocessor key over a snapshot of the input
abbrev pub IsFoundFor : Bool → Look → SnapshotRequest → FileMap → String Global → Found → Type 0
IsFoundFor reads_all wanted asked input key (Hit k place n object) =
    (k ≡ key) × IsPlace place × IsNameOfKey reads_all wanted.request asked input key n × (object.key.items ≡ string_bytes n) × (has_outputs wanted.outputs object ≡ true)
IsFoundFor reads_all wanted asked input key (Miss k since missed) = (k ≡ key) × IfSome missed.object_name (IsNameOfKey reads_all wanted.request asked input key)
IsFoundFor reads_all wanted asked input key NoKey = ⊥

-- The result of a look-up. A hit has an object file of the name of an object whose key is looked up in an entry file of the request's preprocessor
-- key.
abbrev pub IsLookResult : Environment → Look → Found → Type 0
IsLookResult environment wanted (Hit k place n object) =
    (has : HasPreprocessorKey environment wanted.request (Some (string_bytes k))) × IsPlace place
    × IsNameOfKey environment.reads_all wanted.request has.asked has.input k n × (object.key.items ≡ string_bytes n) × (has_outputs wanted.outputs object ≡ true)
IsLookResult environment wanted (Miss k since missed) =
    (has : HasPreprocessorKey environment wanted.request (Some (string_bytes k))) × IfSome missed.object_name (IsNameOfKey environment.reads_all wanted.request has.asked has.input k)
IsLookResult environment wanted NoKey = HasPreprocessorKey environment wanted.request None
