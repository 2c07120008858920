-- what a recording records
use Rattle.std.specs.Prelude.{◌≡◌, ◌++◌, ◌⊎◌, ℤ, pos, ◌*ℤ◌, ◌+ℤ◌, List, Bool, true, false, not, Option, Some, None, String, string_bytes, vec_items}
use Rattle.std.specs.Option.{option_map}
use Rattle.std.specs.declared.alloc.Global.{Global}
use Rattle.cck_cache_rules.specs.Shown.{ShowsBase}
use Rattle.cck_cache_rules.specs.Text.{AreBases}
use Rattle.cck_cache_files.specs.Absence.{AreTestsOf, IsRefusedByPath}
use Rattle.cck_cache_files.specs.RealPaths.{AreLinksOf, HasAbsent}
use Rattle.cck_cache_files.specs.TextCopies.{IsCopiesVerdict}
use Rattle.cck_cache.specs.Input.{IsCalm, IsInput, NoFault}
use Rattle.cck_cache.specs.Naming.{IsNameIn}
use Rattle.cck_cache_files.specs.Tested.{AreAskedTests, IsRefusedBySource}
use Rattle.cck_cache.specs.Request.{IsKeyOver, IsRequest, is_clang, key_over, request_words}
use Rattle.cck_cache_files.specs.Unnamed.{AreUnnamedTests, IsRefusedByUnnamed}
use Rattle.cck_cache.specs.declared.environment.Environment.{Environment}
use Rattle.cck_cache.specs.declared.record.Added.{Added}
use Rattle.cck_cache.specs.declared.record.EntryVerdict.{EntryVerdict}
use Rattle.cck_cache.specs.declared.record.EntryVerdict.TheVariants.{Added as HasEntry, Refused as EntryRefused}
use Rattle.cck_cache.specs.declared.record.InputVerdict.{InputVerdict}
use Rattle.cck_cache.specs.declared.record.InputVerdict.TheVariants.{Key, Refused as KeyRefused}
use Rattle.cck_cache.specs.declared.record.Gathered.{Gathered}
use Rattle.cck_cache.specs.declared.record.ReadRules.{ReadRules}
use Rattle.cck_cache.specs.declared.record.Outcome.{Outcome}
use Rattle.cck_cache.specs.declared.record.Outcome.TheVariants.{Recorded, Refused}
use Rattle.cck_cache.specs.declared.record.Seen.{Seen}
use Rattle.cck_cache.specs.declared.record.Seen.TheVariants.{Files, Refused as NotSeen}
use Rattle.cck_cache_rules.specs.PathStatus.{Status}
use Rattle.cck_cache_rules.specs.Files.{EntryFields}
use Rattle.cck_cache_rules.specs.PathTest.{Test, tests_of}
use Rattle.cck_cache_text.specs.ReadFiles.{IsAssembledRule, IsOpenedRule}
use Rattle.cck_cache_rules.specs.declared.object_file.ObjectFile.{ObjectFile}
use Rattle.cck_cache_files.specs.declared.path_states.PathStates.{PathStates}
use Rattle.cck_cache_files.specs.Snapshot.{ArePut, IsNamedFile, IsPart}
use Rattle.cck_cache_rules.specs.Refusal.{IsRefusal}
use Rattle.cck_cache_rules.specs.declared.refusal.Refusal.{Refusal}
use Rattle.cck_cache_rules.specs.declared.refusal.Refusal.TheVariants.{AssemblerInclude, OtherFile, NamedFile, BaseDirectory}
use Rattle.cck_cache_files.specs.declared.request.Request.{Request}
use Rattle.cck_cache_options.specs.declared.task.Compilation.{Compilation}
use Rattle.cck_cache_options.specs.declared.task.Made.{Made}
use Rattle.cck_hasher.specs.declared.hasher.opening.PreprocessorKey.{PreprocessorKey}
use Rattle.cck_files.specs.FileMap.{FileMap}
use Rattle.cck_files.specs.FileState.{FileState}
use Rattle.cck_include.specs.Marks.{Mark, Marks}
use Rattle.cck_path.specs.Bytes.{Bytes, lists_of}
use Rattle.cck_path.specs.Timestamp.{Moment}
use Rattle.c_cache_keys.specs.Recordings.{IsRecording}
use Rattle.c_cache_keys.specs.declared.recordings.RecordedEntry.{RecordedEntry}
use Rattle.c_cache_keys.specs.declared.requests.SnapshotRequest.{SnapshotRequest}
use Rattle.jiff.specs.Types.{DateTime, TimeZone}
use Rattle.jiff.specs.Words.{IsTimestampNanos, civil_nanos, epoch_day, nanos_of_seconds, offset_at, plain_zone}
use Rattle.sha2.specs.Sha256.{sha256}

-- the nanoseconds of so many seconds
abbrev pub second_nanos : ℤ → ℤ
second_nanos seconds = seconds *ℤ pos 1_000_000_000

-- there is no civil time so many seconds after the beginning of 1970, or it is this
abbrev pub HasNoLocalTime : ℤ → Type 0
HasNoLocalTime seconds = ¬ IsTimestampNanos (second_nanos seconds)

abbrev pub IsLocalTime : TimeZone → ℤ → DateTime → Type 0
IsLocalTime zone seconds time =
    IsTimestampNanos (second_nanos seconds) × (civil_nanos time ≡ second_nanos seconds +ℤ nanos_of_seconds (offset_at zone (second_nanos seconds)))

-- both times have one date; or they have two, or one of them has none
abbrev pub IsOneDay : TimeZone → ℤ → ℤ → Bool → Type 0
IsOneDay zone a b true = (x y : DateTime) × IsLocalTime zone a x × IsLocalTime zone b y × (epoch_day x.date ≡ epoch_day y.date)
IsOneDay zone a b false =
    HasNoLocalTime a ⊎ (HasNoLocalTime b ⊎ ((x y : DateTime) × IsLocalTime zone a x × IsLocalTime zone b y × ¬ (epoch_day x.date ≡ epoch_day y.date)))

-- the compiler of a request renames system headers, as gcc does, and clang does not
abbrev pub renames_headers : Request → Bool
renames_headers request = not (is_clang (string_bytes request.compiler))

-- These tests of paths must hold, by what the compiler printed of its directories and by states of paths, where a file or a link that changed at this
-- time or later is in doubt.
pub record HasPathTests (request : Request) (since : Moment) (printed text : Bytes) (made : List Test) : Type 0 where
  pub states : PathStates
  pub since_is : states.since ≡ since
  pub tests_are : AreTestsOf (renames_headers request) states request.directory.now text (lists_of request.arguments.items) printed made

-- files of a text: the input, and files at the paths of the names of the text, none of which replaced another
pub record AreFilesOf (request : Request) (text : Bytes) (files : FileMap) : Type 0 where
  pub input : FileMap
  pub is_input : IsInput request input
  pub marks : List Mark
  pub are_marks : Marks true text marks
  pub put : ArePut (IsNamedFile marks request.directory.now) input files
  pub kept : IsPart input files

-- these tests are of the paths at which the sources of the text look for headers, in the same way
pub record HasAskedTests (request : Request) (since : Moment) (printed text : Bytes) (files : FileMap) (tests : List Test) : Type 0 where
  pub states : PathStates
  pub since_is : states.since ≡ since
  pub tests_are : AreAskedTests states files request.directory.now text printed tests

-- these tests are of the paths at which headers of the text and of the arguments are looked for, and which the text does not name, in the same way
pub record HasUnnamedTests (request : Request) (since : Moment) (printed text : Bytes) (files : FileMap) (tests : List Test) : Type 0 where
  pub states : PathStates
  pub since_is : states.since ≡ since
  pub tests_are : AreUnnamedTests states files request.directory.now text (lists_of request.arguments.items) printed tests

-- Files that were gathered for a text, of which no two are copies. No path at which a header would have been found earlier, or at which a source looks for one, is in doubt, nor is
-- one at which a header of the text is looked for and which the text does not name: these are the tests of all.
pub record AreTested (request : Request) (since : Moment) (printed text : Bytes) (files : FileMap) (tests : List Test) : Type 0 where
  pub are_files : AreFilesOf request text files
  pub no_copies : IsCopiesVerdict files request text false
  pub made : List Test
  pub path_tests : HasPathTests request since printed text made
  pub asked : List Test
  pub tested : HasAskedTests request since printed text files asked
  pub others : List Test
  pub unnamed : HasUnnamedTests request since printed text files others
  pub tests_are : tests ≡ (made ++ asked) ++ others

-- These tests are of such files, and after them those of where the directories of absent paths lead, by a compiler that renames no header.
pub record AreGathered (request : Request) (since : Moment) (printed text : Bytes) (files : FileMap) (tests : List Test) : Type 0 where
  pub first : List Test
  pub are_tested : AreTested request since printed text files first
  pub links : List Test
  pub are_links : AreLinksOf (renames_headers request) first links
  pub tests_are : tests ≡ first ++ links

-- a path keeps a compilation from being recorded
pub record HasPathRefusal (request : Request) (since : Moment) (printed text : Bytes) (refusal : Refusal) : Type 0 where
  pub states : PathStates
  pub since_is : states.since ≡ since
  pub refused : IsRefusedByPath (renames_headers request) states request.directory.now text (lists_of request.arguments.items) printed refusal

-- what a source asks for keeps a compilation from being recorded, by files that were gathered for the text
pub record HasSourceRefusal (request : Request) (since : Moment) (printed text : Bytes) (refusal : Refusal) : Type 0 where
  pub files : FileMap
  pub are_files : AreFilesOf request text files
  pub states : PathStates
  pub since_is : states.since ≡ since
  pub refused : IsRefusedBySource states files request.directory.now text printed refusal

-- a path that the text does not name keeps a compilation from being recorded
pub record HasUnnamedRefusal (request : Request) (since : Moment) (printed text : Bytes) (refusal : Refusal) : Type 0 where
  pub states : PathStates
  pub since_is : states.since ≡ since
  pub refused : IsRefusedByUnnamed states request.directory.now text (lists_of request.arguments.items) printed refusal

-- two files of the text are copies, of files that were gathered for it
pub record HasCopiesRefusal (request : Request) (text : Bytes) (refusal : Refusal) : Type 0 where
  pub files : FileMap
  pub are_files : AreFilesOf request text files
  pub found : IsCopiesVerdict files request text true
  pub is_other : refusal ≡ OtherFile

-- it is not known where a link leads on the way to a path at which there is nothing
pub record HasLinkRefusal (request : Request) (since : Moment) (printed text : Bytes) (refusal : Refusal) : Type 0 where
  pub files : FileMap
  pub tests : List Test
  pub are_tested : AreTested request since printed text files tests
  pub renames : renames_headers request ≡ false
  pub absent : HasAbsent tests
  pub is_named : refusal ≡ NamedFile

-- What was gathered over these files, with these tests and those of links; or it is not known where one leads
abbrev pub IsSeenWith : Bool → FileState → List Test → Seen → Type 0
IsSeenWith renames files tests (Files gathered) =
    (gathered.files ≡ files) × ((links : List Test) × AreLinksOf renames tests links × (tests_of gathered.tests.items ≡ tests ++ links))
IsSeenWith renames files tests (NotSeen refusal) = (refusal ≡ NamedFile) × ((renames ≡ false) × HasAbsent tests)

-- why a compilation is not recorded by its text: what a source asks for, two copies, a path or a link
abbrev pub IsRefusedByText : Request → Moment → Bytes → Bytes → Refusal → Type 0
IsRefusedByText request since printed text refusal =
    HasSourceRefusal request since printed text refusal
    ⊎ (HasPathRefusal request since printed text refusal
    ⊎ (HasUnnamedRefusal request since printed text refusal ⊎ (HasCopiesRefusal request text refusal ⊎ HasLinkRefusal request since printed text refusal)))

-- what a recording looks at, by what the compiler printed of its directories
abbrev pub IsSeen : Request → Moment → Bytes → Bytes → Seen → Type 0
IsSeen request since printed text (Files gathered) =
    AreGathered request since printed text gathered.files.files (tests_of gathered.tests.items) × IsCalm gathered.files
IsSeen request since printed text (NotSeen refusal) = IsRefusedByText request since printed text refusal

-- the same by what it may have printed
abbrev pub IsSeenBySome : Request → Moment → Bytes → Seen → Type 0
IsSeenBySome request since text seen = (printed : Bytes) × IsSeen request since printed text seen

-- there is a dependency file, and this holds of it
abbrev pub Holds : (Bytes → Type 0) → Option Bytes → Type 0
Holds P None = ⊥
Holds P (Some rule) = P rule

-- By these dependency files the assembler read nothing but what the compiler made of the input, and the compiler opened no file but those that the text
-- names; or which of the two does not hold.
abbrev pub IsJudgedByRules : Bytes → Bytes → ReadRules → Option Refusal → Type 0
IsJudgedByRules input text rules None = IsAssembledRule input rules.assembled.items × Holds (IsOpenedRule text) (option_map vec_items rules.opened)
IsJudgedByRules input text rules (Some refusal) =
    ((refusal ≡ AssemblerInclude) × ¬ IsAssembledRule input rules.assembled.items)
    ⊎ ((refusal ≡ OtherFile) × (IsAssembledRule input rules.assembled.items × ¬ Holds (IsOpenedRule text) (option_map vec_items rules.opened)))

-- the same by dependency files that there are; an object that was not made by this compilation is there
abbrev pub IsJudgedByReading : Request → Bytes → Option Made → Option Refusal → Type 0
IsJudgedByReading request text None refusal = refusal ≡ None
IsJudgedByReading request text (Some made) refusal = (rules : ReadRules) × IsJudgedByRules request.input.now text rules refusal

-- why a compilation is not recorded by its input and its time, if it is not
abbrev pub IsJudgedByInput : Environment → SnapshotRequest → FileMap → Bytes → Option Refusal → Type 0
IsJudgedByInput environment asked files key refusal =
    (one_day : Bool) × IsOneDay (plain_zone asked.zone.now) asked.moment.seconds environment.now.seconds one_day × IsRefusal (key_over asked files) key one_day refusal

-- the preprocessor key over these files, where neither the input nor the time keeps the compilation from being recorded; or why it is not
abbrev pub IsInputVerdict : Environment → SnapshotRequest → FileMap → Bytes → InputVerdict → Type 0
IsInputVerdict environment asked files key (Key own) = IsJudgedByInput environment asked files key None × IsKeyOver asked files own
IsInputVerdict environment asked files key (KeyRefused refusal) = IsJudgedByInput environment asked files key (Some refusal)

-- one of the base directories is in a part of the object file, if there is one
abbrev pub ObjectShowsBase : List Bytes → Option ObjectFile → Type 0
ObjectShowsBase bases None = ⊥
ObjectShowsBase bases (Some object) = ShowsBase bases object.object.items ⊎ (ShowsBase bases object.messages.items ⊎ ShowsBase bases object.dependencies.items)

-- a base directory is in something that the compiler made
abbrev pub IsRefusedByBase : List Bytes → Refusal → Type 0
IsRefusedByBase bases refusal = (refusal ≡ BaseDirectory) × ((object : ObjectFile) × ObjectShowsBase bases (Some object))

-- the entry file of an entry, with these statuses and tests of paths
abbrev pub recorded_fields : RecordedEntry → List Status → List Test → EntryFields
recorded_fields entry statuses made =
    record { preprocessor_key = string_bytes entry.preprocessor_key; entry = entry.bytes.items; statuses = statuses; tests = made }

-- the request of a compilation over a snapshot, at the time at which its look-up ended
pub record IsAsked (environment : Environment) (request : Request) (compilation : Compilation) (text : Bytes) (asked : SnapshotRequest) : Type 0 where
  pub bases : List Bytes
  pub are_bases : AreBases (request_words request) text bases
  pub is_request : IsRequest environment request compilation.since bases asked

-- The recording over these files has an entry, and neither the input nor the time keeps it from being recorded. The name is that of the object of the
-- recording's key, by this entry, the recorded digest of the input and these tests.
pub record IsRecordedOver (environment : Environment) (request : Request) (compilation : Compilation) (text : Bytes) (files : FileMap) (tests : List Test) (name : String Global) : Type 0 where
  pub asked : SnapshotRequest
  pub is_asked : IsAsked environment request compilation text asked
  pub judged : IsJudgedByInput environment asked files compilation.key.now None
  pub own : PreprocessorKey
  pub is_own : IsKeyOver asked files own
  pub key : String Global
  pub entry : RecordedEntry
  pub recorded : IsRecording sha256 files asked NoFault text (record { key = key; put = Some entry })
  pub is_name : IsNameIn request (string_bytes own.input_digest) entry.bytes.items tests (string_bytes key) (string_bytes name)

-- the input or the time keeps it from being recorded
pub record IsRefusedByInput (environment : Environment) (request : Request) (compilation : Compilation) (text : Bytes) (files : FileMap) (refusal : Refusal) : Type 0 where
  pub asked : SnapshotRequest
  pub is_asked : IsAsked environment request compilation text asked
  pub judged : IsJudgedByInput environment asked files compilation.key.now (Some refusal)

-- the recording has no entry
pub record RecordsNoEntry (environment : Environment) (request : Request) (compilation : Compilation) (text : Bytes) (files : FileMap) : Type 0 where
  pub asked : SnapshotRequest
  pub is_asked : IsAsked environment request compilation text asked
  pub key : String Global
  pub recorded : IsRecording sha256 files asked NoFault text (record { key = key; put = None })

-- what a recording over files adds by a request over a snapshot, where neither the input nor the time keeps it from being recorded
pub record IsAdded (environment : Environment) (asked : SnapshotRequest) (compilation : Compilation) (text : Bytes) (files : FileMap) (added : Added) : Type 0 where
  pub judged : IsJudgedByInput environment asked files compilation.key.now None
  pub is_own : IsKeyOver asked files added.own
  pub recorded : IsRecording sha256 files asked NoFault text (record { key = added.key; put = Some added.entry })

-- what is added; or the input or the time keeps it from being recorded, or the recording has no entry
abbrev pub IsEntryVerdict : Environment → SnapshotRequest → Compilation → Bytes → FileMap → EntryVerdict → Type 0
IsEntryVerdict environment asked compilation text files (HasEntry added) = IsAdded environment asked compilation text files added
IsEntryVerdict environment asked compilation text files (EntryRefused refusal) =
    IsJudgedByInput environment asked files compilation.key.now (Some refusal)
    ⊎ ((refusal ≡ NamedFile) × ((key : String Global) × IsRecording sha256 files asked NoFault text (record { key = key; put = None })))

-- the same by the request of a compilation with these base directories
pub record IsEntryOf (environment : Environment) (request : Request) (compilation : Compilation) (bases : List Bytes) (text : Bytes) (files : FileMap) (verdict : EntryVerdict) : Type 0 where
  pub asked : SnapshotRequest
  pub is_request : IsRequest environment request compilation.since bases asked
  pub found : IsEntryVerdict environment asked compilation text files verdict

-- the outcome of what a recording adds, with these tests: the name of the object, or a base directory is in what the compiler made
abbrev pub IsKept : Request → List Bytes → Added → List Test → Outcome → Type 0
IsKept request bases added tests (Recorded name) =
    IsNameIn request (string_bytes added.own.input_digest) added.entry.bytes.items tests (string_bytes added.key) (string_bytes name)
IsKept request bases added tests (Refused refusal) = IsRefusedByBase bases refusal

-- a base directory is in what the compiler made
abbrev pub ShowsBaseOf : Request → Bytes → Refusal → Type 0
ShowsBaseOf request text refusal = (bases : List Bytes) × AreBases (request_words request) text bases × IsRefusedByBase bases refusal

-- why a compilation is not recorded over files: its input or its time; or a name in doubt, or a text that has no entry; or a base directory
abbrev pub IsRefusedOver : Environment → Request → Compilation → Bytes → Bool → FileMap → Refusal → Type 0
IsRefusedOver environment request compilation text doubtful files refusal =
    IsRefusedByInput environment request compilation text files refusal
    ⊎ (((refusal ≡ NamedFile) × ((doubtful ≡ true) ⊎ RecordsNoEntry environment request compilation text files)) ⊎ ShowsBaseOf request text refusal)

abbrev pub IsOutcomeOver : Environment → Request → Compilation → Bytes → Gathered → Outcome → Type 0
IsOutcomeOver environment request compilation text gathered (Recorded name) =
    (gathered.is_doubtful ≡ false)
    × IsRecordedOver environment request compilation text gathered.files.files (tests_of gathered.tests.items) name
IsOutcomeOver environment request compilation text gathered (Refused refusal) =
    IsRefusedOver environment request compilation text gathered.is_doubtful gathered.files.files refusal

-- The outcome of a recording. What is recorded is recorded over files that were gathered for the text.
abbrev pub IsOutcome : Environment → Request → Compilation → Bytes → Outcome → Type 0
IsOutcome environment request compilation text (Recorded name) =
    IsJudgedByReading request text compilation.made None
    × ((printed : Bytes) × (files : FileMap) × (tests : List Test) × AreGathered request compilation.since printed text files tests × IsRecordedOver environment request compilation text files tests name)
IsOutcome environment request compilation text (Refused refusal) =
    IsJudgedByReading request text compilation.made (Some refusal)
    ⊎ (((printed : Bytes) × IsRefusedByText request compilation.since printed text refusal)
    ⊎ ((printed : Bytes) × (doubtful : Bool) × (files : FileMap) × (tests : List Test) × AreGathered request compilation.since printed text files tests
    × IsRefusedOver environment request compilation text doubtful files refusal))
