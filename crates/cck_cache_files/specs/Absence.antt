-- the tests of paths that must hold for a recorded key
use Rattle.std.specs.Prelude.{◌≡◌, ◌⊎◌, ◌++◌, Bool, true, false, List, Contains, Option, Some, None, IsTrue, map}
use Rattle.cck_cache_files.specs.declared.absence.Absence.{Absence}
use Rattle.cck_cache_files.specs.declared.absence.Absence.TheVariants.{Tests, Refused}
use Rattle.cck_cache_files.specs.SearchedPaths.{AreSearched, HasDoubtfulDirectory}
use Rattle.cck_cache_files.specs.TestsAt.{AreTestsAt, IsDoubtfulAt}
use Rattle.cck_cache_text.specs.Absent.{AreAbsentNames, IsAbsentName, IsListed}
use Rattle.cck_cache_text.specs.Left.{IsLeft}
use Rattle.cck_cache_text.specs.Names.{IsSystem, is_named, is_system_name}
use Rattle.cck_cache_rules.specs.PathTest.{Test, Directory, tests_of}
use Rattle.cck_cache_text.specs.SearchList.{IsSearchList, SearchFields}
use Rattle.cck_cache_files.specs.RealPaths.{ArePlaced, IsPathOf}
use Rattle.cck_cache_files.specs.declared.real_paths.LinkTests.{LinkTests}
use Rattle.cck_cache_files.specs.declared.path_states.PathStates.{PathStates}
use Rattle.cck_cache_rules.specs.declared.refusal.Refusal.{Refusal}
use Rattle.cck_cache_rules.specs.declared.refusal.Refusal.TheVariants.{NoKey, InputChanged, DayChanged, NoSearchList, UnknownHeader, HeaderTest, DependencyPragma, AssemblerInclude, OtherFile, EarlierPath, NamedFile, BaseDirectory}
use Rattle.cck_include.specs.Marks.{Mark, Marks}
use Rattle.cck_path.specs.Bytes.{Bytes}
use Rattle.cck_path.specs.Text.{join_path}

-- exactly the directories that names among these marks leave
abbrev pub AreLeft : Bytes → List Mark → List Bytes → Type 0
AreLeft directory marks fronts = (front : Bytes) → (Contains fronts front → IsLeft directory marks front) × (IsLeft directory marks front → Contains fronts front)

-- the links on the way to this name are tested: to a system header; or, by a compiler that renames no header, to any file of the text and to each directory that it searches
abbrev pub IsLinked : Bool → SearchFields → List Mark → Bytes → Bytes → Type 0
IsLinked true search marks text name = IsSystem marks text name
IsLinked false search marks text name = IsTrue (is_named marks name) ⊎ (Contains search.directories name ⊎ Contains search.duplicates name)

-- These tests, and after them those of the directories that names leave, and of the links on the way to names
pub record AreTestsAfter (renames : Bool) (search : SearchFields) (directory text : Bytes) (first tests : List Test) : Type 0 where
  pub fronts : List Bytes
  pub fronts_are : (marks : List Mark) → Marks true text marks → AreLeft directory marks fronts
  pub links : LinkTests
  pub links_are : (marks : List Mark) → Marks true text marks → ArePlaced (IsPathOf directory (IsLinked renames search marks text)) links
  pub tests_are : tests ≡ ((first ++ map Directory fronts) ++ tests_of links.plain.items) ++ tests_of links.real.items

-- The tests of the paths of a text and of the headers that it and these arguments include, by what the compiler printed of its directories. The list of directories can be read, each system header is in one
-- of them, and no path and no directory is in doubt.
pub record AreTestsOf (renames : Bool) (states : PathStates) (directory text : Bytes) (arguments : List Bytes) (printed : Bytes) (tests : List Test) : Type 0 where
  pub search : SearchFields
  pub is_search : IsSearchList printed (Some search)
  pub listed : (marks : List Mark) → Marks true text marks → (name : Bytes) → IsTrue (is_system_name marks name) → IsListed search.directories name
  pub searched : List Test
  pub are_searched : AreSearched directory search searched
  pub earlier : List Test
  pub earlier_are : (marks : List Mark) → Marks true text marks → AreTestsAt states directory (IsAbsentName marks text arguments search) earlier
  pub after : AreTestsAfter renames search directory text (searched ++ earlier) tests

-- a path of the text is in doubt
pub record HasDoubtfulPath (states : PathStates) (directory text : Bytes) (arguments : List Bytes) (printed : Bytes) : Type 0 where
  pub search : SearchFields
  pub is_search : IsSearchList printed (Some search)
  pub doubtful : (marks : List Mark) → Marks true text marks → (name : Bytes) × IsAbsentName marks text arguments search name × IsDoubtfulAt states (join_path directory name)

-- the compiler's list is not right for one of its directories
pub record HasDoubtfulSearch (directory printed : Bytes) : Type 0 where
  pub search : SearchFields
  pub is_search : IsSearchList printed (Some search)
  pub doubtful : HasDoubtfulDirectory directory search

-- a system header is in no directory of the list
pub record HasUnknownHeader (text : Bytes) (arguments : List Bytes) (printed : Bytes) : Type 0 where
  pub search : SearchFields
  pub is_search : IsSearchList printed (Some search)
  pub unknown : (marks : List Mark) → Marks true text marks → AreAbsentNames marks text arguments search None

-- there is a name to which the links on the way are tested
abbrev pub HasLinked : Bool → SearchFields → Bytes → Type 0
HasLinked renames search text = (marks : List Mark) → Marks true text marks → (name : Bytes) × IsLinked renames search marks text name

-- the same by what the compiler printed of its directories
pub record HasUnknownLink (renames : Bool) (text printed : Bytes) : Type 0 where
  pub search : SearchFields
  pub is_search : IsSearchList printed (Some search)
  pub linked : HasLinked renames search text

-- tests after these; or none, where it is not known where a name leads
abbrev pub AreTestsAfterIfKnown : Bool → SearchFields → Bytes → Bytes → List Test → Option (List Test) → Type 0
AreTestsAfterIfKnown renames search directory text first None = HasLinked renames search text
AreTestsAfterIfKnown renames search directory text first (Some tests) = AreTestsAfter renames search directory text first tests

abbrev pub IsRefusedByPath : Bool → PathStates → Bytes → Bytes → List Bytes → Bytes → Refusal → Type 0
IsRefusedByPath renames states directory text arguments printed NoSearchList = IsSearchList printed None
IsRefusedByPath renames states directory text arguments printed UnknownHeader = HasUnknownHeader text arguments printed
IsRefusedByPath renames states directory text arguments printed EarlierPath = HasDoubtfulPath states directory text arguments printed ⊎ HasDoubtfulSearch directory printed
IsRefusedByPath renames states directory text arguments printed NoKey = ⊥
IsRefusedByPath renames states directory text arguments printed InputChanged = ⊥
IsRefusedByPath renames states directory text arguments printed DayChanged = ⊥
IsRefusedByPath renames states directory text arguments printed HeaderTest = ⊥
IsRefusedByPath renames states directory text arguments printed DependencyPragma = ⊥
IsRefusedByPath renames states directory text arguments printed AssemblerInclude = ⊥
IsRefusedByPath renames states directory text arguments printed OtherFile = ⊥
IsRefusedByPath renames states directory text arguments printed NamedFile = HasUnknownLink renames text printed
IsRefusedByPath renames states directory text arguments printed BaseDirectory = ⊥

-- what is found of the paths of a text
abbrev pub IsAbsence : Bool → PathStates → Bytes → Bytes → List Bytes → Bytes → Absence → Type 0
IsAbsence renames states directory text arguments printed (Tests tests) = AreTestsOf renames states directory text arguments printed (tests_of tests.items)
IsAbsence renames states directory text arguments printed (Refused refusal) = IsRefusedByPath renames states directory text arguments printed refusal
