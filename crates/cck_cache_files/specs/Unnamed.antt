-- the paths at which headers are looked for and which a text does not name
use Rattle.std.specs.Prelude.{◌≡◌, ◌≢◌, ◌<◌, ◌⊎◌, ◌++◌, Bool, true, false, List, [], Contains, IsTrue, MatchBool, Option, Some, None, length, map}
use Rattle.std.specs.List.{list_all}
use Rattle.cck_cache_files.specs.TextCopies.{MayImport}
use Rattle.cck_cache_files.specs.declared.unnamed.Presence.{Presence}
use Rattle.cck_cache_files.specs.declared.unnamed.Presence.TheVariants as presence
use Rattle.cck_cache_files.specs.declared.unnamed.Spellings.{Spellings}
use Rattle.cck_cache_files.specs.declared.unnamed.Unnamed.{Unnamed}
use Rattle.cck_cache_files.specs.declared.unnamed.Unnamed.TheVariants.{Tests, Refused}
use Rattle.cck_cache_files.specs.declared.unnamed.UnnamedVerdict.{UnnamedVerdict}
use Rattle.cck_cache_files.specs.declared.unnamed.UnnamedVerdict.TheVariants.{Passed, Spelling, Doubtful}
use Rattle.cck_cache_text.specs.Left.{IsLeftOn}
use Rattle.cck_cache_text.specs.LookedAt.{IsLookedAt}
use Rattle.cck_cache_text.specs.Names.{is_named}
use Rattle.cck_cache_rules.specs.PathTest.{Test, Absent, Directory, File, Searched, Plain, Real, tests_of}
use Rattle.cck_cache_text.specs.SearchList.{IsSearchList, SearchFields}
use Rattle.cck_cache_text.specs.Sets.{has_key}
use Rattle.cck_cache_files.specs.Copies.{AreKnown, IsInSnapshot}
use Rattle.cck_cache_files.specs.declared.copies.KnownFile.{KnownFile}
use Rattle.cck_cache_files.specs.PathStates.{AreOnTheWay, HasOther, IsFirstOther}
use Rattle.cck_cache_files.specs.declared.path_states.PathState.TheVariants as state
use Rattle.cck_cache_files.specs.declared.path_states.PathStates.{PathStates}
use Rattle.cck_cache_rules.specs.declared.refusal.Refusal.{Refusal}
use Rattle.cck_cache_rules.specs.declared.refusal.Refusal.TheVariants.{NoKey, InputChanged, DayChanged, NoSearchList, UnknownHeader, HeaderTest, DependencyPragma, AssemblerInclude, OtherFile, EarlierPath, NamedFile, BaseDirectory}
use Rattle.cck_cache_files.specs.declared.request.Request.{Request}
use Rattle.cck_files.specs.FileMap.{FileMap}
use Rattle.cck_include.specs.Marks.{Mark, Marks}
use Rattle.cck_path.specs.Bytes.{Bytes}
use Rattle.cck_path.specs.Path.{components, normal}
use Rattle.cck_path.specs.Text.{join_path, path_text}

-- a test that holds of a path as long as gcc reads nothing there: nothing is there, by the first part of the path at which there is nothing or a file;
-- or a directory
abbrev pub IsUnreadTest : PathStates → Bytes → Test → Type 0
IsUnreadTest states path (Absent front) = IsFirstOther states path front state.Absent
IsUnreadTest states path (Directory directory) = (directory ≡ path) × IsFirstOther states path path state.Directory
IsUnreadTest states path (File front) = (length front < length path) × IsFirstOther states path front state.File
IsUnreadTest states path (Searched file place) = ⊥
IsUnreadTest states path (Plain file) = ⊥
IsUnreadTest states path (Real file real) = ⊥

-- gcc reads nothing at a path: nothing is there, a file is on the way to it, or a directory is there
abbrev pub IsUnread : PathStates → Bytes → Type 0
IsUnread states path = (test : Test) × IsUnreadTest states path test

-- a regular file or a link is at a path
abbrev pub IsThere : PathStates → Bytes → Type 0
IsThere states path = IsFirstOther states path path state.File ⊎ IsFirstOther states path path state.Link

-- the path without `.` and `..`
abbrev pub normal_path : Bytes → Bytes
normal_path path = path_text (normal (components path))

-- a snapshot has something at a path to which another one leads: it is the same, or each path on its way is a directory
abbrev pub LeadsTo : PathStates → FileMap → Bytes → Bytes → Type 0
LeadsTo states files path whole = IsInSnapshot files whole × ((path ≡ whole) ⊎ AreOnTheWay (λ s. s ≡ state.Directory) states path (length path))

-- a snapshot has nothing there, or the other one is not the same, and something else than a directory is on its way
abbrev pub LeadsNotTo : PathStates → FileMap → Bytes → Bytes → Type 0
LeadsNotTo states files path whole = ¬ (IsInSnapshot files whole) ⊎ ((path ≢ whole) × HasOther states path)

-- another spelling of the path of something in a snapshot
abbrev pub IsSpelling : PathStates → FileMap → Bytes → Type 0
IsSpelling states files path = IsThere states path × LeadsTo states files path (normal_path path)

-- gcc reads nothing at a path, or no other spelling of something in a snapshot; of what is there the system says whether gcc may take it for a copy
abbrev pub IsPassed : PathStates → FileMap → Bytes → Type 0
IsPassed states files path = IsUnread states path ⊎ (IsThere states path × LeadsNotTo states files path (normal_path path))

-- something is at a path, or it is in doubt
abbrev pub IsUnclear : PathStates → Bytes → Type 0
IsUnclear states path = IsThere states path ⊎ ((front : Bytes) × IsFirstOther states path front state.Doubtful)

-- what is at a path by the states
abbrev pub IsPresence : PathStates → Bytes → Presence → Type 0
IsPresence states path (presence.Absent front) = IsUnreadTest states path (Absent front.now)
IsPresence states path (presence.Below front) = IsUnreadTest states path (File front.now)
IsPresence states path presence.Directory = IsFirstOther states path path state.Directory
IsPresence states path presence.There = IsThere states path
IsPresence states path presence.Unknown = (front : Bytes) × IsFirstOther states path front state.Doubtful

-- what is to be made of a path
abbrev pub IsUnnamedVerdict : PathStates → FileMap → Bytes → UnnamedVerdict → Type 0
IsUnnamedVerdict states files path Passed = IsPassed states files path
IsUnnamedVerdict states files path Spelling = IsSpelling states files path
IsUnnamedVerdict states files path Doubtful = IsUnclear states path

-- Each of these names, which are relative to the directory, is passed, or is another spelling of which each directory that it leaves is among these;
-- and these are no others.
pub record AreFronts (states : PathStates) (files : FileMap) (directory : Bytes) (IsName IsFront : Bytes → Type 0) : Type 0 where
  pub each : (name : Bytes) → IsName name
      → IsPassed states files (join_path directory name) ⊎ (IsSpelling states files (join_path directory name) × ((front : Bytes) → IsLeftOn (join_path directory name) front → IsFront front))
  pub only : (front : Bytes) → IsFront front → (name : Bytes) × IsName name × IsSpelling states files (join_path directory name) × IsLeftOn (join_path directory name) front

-- a name is unclear
abbrev pub HasUnclear : PathStates → Bytes → (Bytes → Type 0) → Type 0
HasUnclear states directory IsName = (name : Bytes) × IsName name × IsUnclear states (join_path directory name)

-- one of the names is another spelling, or each is passed
abbrev pub HasSpelling : PathStates → FileMap → Bytes → (Bytes → Type 0) → Type 0
HasSpelling states files directory IsName = (name : Bytes) × IsName name × IsSpelling states files (join_path directory name)

abbrev pub AreAllPassed : PathStates → FileMap → Bytes → (Bytes → Type 0) → Type 0
AreAllPassed states files directory IsName = (name : Bytes) → IsName name → IsPassed states files (join_path directory name)

-- whether one of the names is another spelling, and exactly the directories that such names leave; or one of the names is unclear
abbrev pub AreSpellings : PathStates → FileMap → Bytes → (Bytes → Type 0) → Option Spellings → Type 0
AreSpellings states files directory IsName None = HasUnclear states directory IsName
AreSpellings states files directory IsName (Some found) =
    MatchBool found.is_any (HasSpelling states files directory IsName) (AreAllPassed states files directory IsName)
    × AreFronts states files directory IsName (λ front. IsTrue (has_key found.left front))

-- For each of these names, which are relative to the directory, a file or a link is at its path, or one of the tests holds as long as gcc reads nothing
-- there; and each test is for a name.
pub record AreUnreadTests (states : PathStates) (directory : Bytes) (IsName : Bytes → Type 0) (tests : List Test) : Type 0 where
  pub each : (name : Bytes) → IsName name → IsThere states (join_path directory name) ⊎ ((test : Test) × Contains tests test × IsUnreadTest states (join_path directory name) test)
  pub only : (test : Test) → Contains tests test → (name : Bytes) × IsName name × IsUnreadTest states (join_path directory name) test

-- such tests, where they are wanted, and else none; or one of the names is unclear
abbrev pub AreUnreadWhere : Bool → PathStates → Bytes → (Bytes → Type 0) → Option (List Test) → Type 0
AreUnreadWhere is_wanted states directory IsName None = HasUnclear states directory IsName
AreUnreadWhere true states directory IsName (Some tests) = AreUnreadTests states directory IsName tests
AreUnreadWhere false states directory IsName (Some tests) = tests ≡ []

-- Such tests, if one of the names is another spelling: gcc may have passed over a file by it, and came to it as it read nothing before. There are none
-- if each name is passed.
abbrev pub AreUnreadBySpelling : PathStates → FileMap → Bytes → (Bytes → Type 0) → List Test → Type 0
AreUnreadBySpelling states files directory IsName tests =
    (HasSpelling states files directory IsName × AreUnreadTests states directory IsName tests) ⊎ (AreAllPassed states files directory IsName × (tests ≡ []))

-- the tests of these names: those of the paths at which gcc reads nothing, and at each directory that another spelling leaves there has to be a directory
pub record AreTestsOfNames (states : PathStates) (files : FileMap) (directory : Bytes) (IsName : Bytes → Type 0) (tests : List Test) : Type 0 where
  pub unread : List Test
  pub unread_are : AreUnreadBySpelling states files directory IsName unread
  pub fronts : List Bytes
  pub fronts_are : AreFronts states files directory IsName (Contains fronts)
  pub tests_are : tests ≡ unread ++ map Directory fronts

-- the tests of these names; or one of them is unclear
abbrev pub AreFound : PathStates → FileMap → Bytes → (Bytes → Type 0) → Option (List Test) → Type 0
AreFound states files directory IsName None = HasUnclear states directory IsName
AreFound states files directory IsName (Some tests) = AreTestsOfNames states files directory IsName tests

-- The tests of the paths at which the headers of a text and of these arguments are looked for, by what the compiler printed of its directories: none of
-- the paths is unclear.
pub record AreUnnamedTests (states : PathStates) (files : FileMap) (directory text : Bytes) (arguments : List Bytes) (printed : Bytes) (tests : List Test) : Type 0 where
  pub search : SearchFields
  pub is_search : IsSearchList printed (Some search)
  pub unread : List Test
  pub unread_are : (marks : List Mark) → Marks true text marks → AreUnreadBySpelling states files directory (IsLookedAt marks text arguments search.directories) unread
  pub fronts : List Bytes
  pub fronts_are : (marks : List Mark) → Marks true text marks → AreFronts states files directory (IsLookedAt marks text arguments search.directories) (Contains fronts)
  pub tests_are : tests ≡ unread ++ map Directory fronts

-- a path at which a header is looked for is unclear
pub record HasUnclearPath (states : PathStates) (directory text : Bytes) (arguments : List Bytes) (printed : Bytes) : Type 0 where
  pub search : SearchFields
  pub is_search : IsSearchList printed (Some search)
  pub unclear : (marks : List Mark) → Marks true text marks → HasUnclear states directory (IsLookedAt marks text arguments search.directories)

-- a test wants something else than a regular file
abbrev pub wants_no_file : Test → Bool
wants_no_file (Absent path) = true
wants_no_file (File path) = false
wants_no_file (Directory path) = true
wants_no_file (Searched file place) = true
wants_no_file (Plain file) = true
wants_no_file (Real file real) = true

-- A text may import a file, and its sources test for one that is there. gcc compares the two, and passes over the first one where they are alike.
abbrev pub ImportsAndTests : Bytes → List Test → Type 0
ImportsAndTests text tests = MayImport text × (list_all wants_no_file tests ≡ false)

-- the files with which gcc may compare another one: those that the text names, and the input; or there is one more, for which a source tests
abbrev pub AreCompared : FileMap → Request → Bytes → List Test → Option (List KnownFile) → Type 0
AreCompared files request text tests None = ImportsAndTests text tests
AreCompared files request text tests (Some known) =
    ¬ (ImportsAndTests text tests)
    × ((marks : List Mark) → Marks true text marks → AreKnown files request.directory.now (λ name. (name ≡ request.input.now) ⊎ IsTrue (is_named marks name)) known)

-- why a compilation is not recorded by these paths
abbrev pub IsRefusedByUnnamed : PathStates → Bytes → Bytes → List Bytes → Bytes → Refusal → Type 0
IsRefusedByUnnamed states directory text arguments printed NoSearchList = IsSearchList printed None
IsRefusedByUnnamed states directory text arguments printed OtherFile = HasUnclearPath states directory text arguments printed ⊎ MayImport text
IsRefusedByUnnamed states directory text arguments printed NoKey = ⊥
IsRefusedByUnnamed states directory text arguments printed InputChanged = ⊥
IsRefusedByUnnamed states directory text arguments printed DayChanged = ⊥
IsRefusedByUnnamed states directory text arguments printed UnknownHeader = ⊥
IsRefusedByUnnamed states directory text arguments printed HeaderTest = ⊥
IsRefusedByUnnamed states directory text arguments printed DependencyPragma = ⊥
IsRefusedByUnnamed states directory text arguments printed AssemblerInclude = ⊥
IsRefusedByUnnamed states directory text arguments printed EarlierPath = ⊥
IsRefusedByUnnamed states directory text arguments printed NamedFile = ⊥
IsRefusedByUnnamed states directory text arguments printed BaseDirectory = ⊥

-- what is found of these paths
abbrev pub IsUnnamed : PathStates → FileMap → Bytes → Bytes → List Bytes → Bytes → Unnamed → Type 0
IsUnnamed states files directory text arguments printed (Tests tests) = AreUnnamedTests states files directory text arguments printed (tests_of tests.items)
IsUnnamed states files directory text arguments printed (Refused refusal) = IsRefusedByUnnamed states directory text arguments printed refusal
