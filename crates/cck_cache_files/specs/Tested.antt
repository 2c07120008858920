-- the tests of the paths at which the sources of a text look for headers
use Rattle.std.specs.Prelude.{◌≡◌, true, List, Some, None}
use Rattle.cck_cache_files.specs.TestsAt.{AreTestsAt, IsDoubtfulAt}
use Rattle.cck_cache_files.specs.declared.tested.Tested.{Tested}
use Rattle.cck_cache_files.specs.declared.tested.Tested.TheVariants.{Tests, Refused}
use Rattle.cck_cache_text.specs.DependencyPragma.{has_dependency}
use Rattle.cck_cache_rules.specs.PathTest.{Test, tests_of}
use Rattle.cck_cache_text.specs.SearchList.{IsSearchList, SearchFields}
use Rattle.cck_cache_text.specs.Splices.{unspliced}
use Rattle.cck_cache_files.specs.Sources.{AreSourceTests, AsksFor, IsPlainSource, IsSource}
use Rattle.cck_cache_files.specs.declared.path_states.PathStates.{PathStates}
use Rattle.cck_cache_rules.specs.declared.refusal.Refusal.{Refusal}
use Rattle.cck_cache_rules.specs.declared.refusal.Refusal.TheVariants.{NoKey, InputChanged, DayChanged, NoSearchList, UnknownHeader, HeaderTest, DependencyPragma, AssemblerInclude, OtherFile, EarlierPath, NamedFile, BaseDirectory}
use Rattle.cck_files.specs.FileMap.{FileMap}
use Rattle.cck_include.specs.Marks.{Mark, Marks}
use Rattle.cck_path.specs.Bytes.{Bytes}
use Rattle.cck_path.specs.Text.{join_path}

-- a path at which a source that the marks name looks for a header
abbrev pub IsAskedPath : FileMap → Bytes → List Mark → List Bytes → Bytes → Type 0
IsAskedPath files directory marks directories path = (name : Bytes) × (contents : Bytes) × IsSource files directory marks name contents × AsksFor directories name contents path

-- the tests of the paths at which the sources of a text look for headers, by what the compiler printed of its directories
pub record AreAskedTests (states : PathStates) (files : FileMap) (directory text printed : Bytes) (tests : List Test) : Type 0 where
  pub search : SearchFields
  pub is_search : IsSearchList printed (Some search)
  pub plain : (marks : List Mark) → Marks true text marks → (name contents : Bytes) → IsSource files directory marks name contents → IsPlainSource contents
  pub tests_are : (marks : List Mark) → Marks true text marks → AreTestsAt states directory (IsAskedPath files directory marks search.directories) tests

-- it is not known what is at a path at which a source looks for a header
pub record HasDoubtfulTest (states : PathStates) (files : FileMap) (directory text printed : Bytes) : Type 0 where
  pub search : SearchFields
  pub is_search : IsSearchList printed (Some search)
  pub doubtful : (marks : List Mark) → Marks true text marks → (name : Bytes) × IsAskedPath files directory marks search.directories name × IsDoubtfulAt states (join_path directory name)

-- a source of the text has such contents
abbrev pub HasSource : FileMap → Bytes → Bytes → (Bytes → Type 0) → Type 0
HasSource files directory text P = (marks : List Mark) → Marks true text marks → (name : Bytes) × (contents : Bytes) × IsSource files directory marks name contents × P contents

-- why a compilation is not recorded by what its sources ask for
abbrev pub IsRefusedBySource : PathStates → FileMap → Bytes → Bytes → Bytes → Refusal → Type 0
IsRefusedBySource states files directory text printed NoSearchList = IsSearchList printed None
IsRefusedBySource states files directory text printed HeaderTest = HasSource files directory text (λ contents. AreSourceTests contents None)
IsRefusedBySource states files directory text printed DependencyPragma = HasSource files directory text (λ contents. has_dependency (unspliced contents) ≡ true)
IsRefusedBySource states files directory text printed EarlierPath = HasDoubtfulTest states files directory text printed
IsRefusedBySource states files directory text printed NoKey = ⊥
IsRefusedBySource states files directory text printed InputChanged = ⊥
IsRefusedBySource states files directory text printed DayChanged = ⊥
IsRefusedBySource states files directory text printed UnknownHeader = ⊥
IsRefusedBySource states files directory text printed AssemblerInclude = ⊥
IsRefusedBySource states files directory text printed OtherFile = ⊥
IsRefusedBySource states files directory text printed NamedFile = ⊥
IsRefusedBySource states files directory text printed BaseDirectory = ⊥

-- what is found of the paths at which sources look
abbrev pub IsTested : PathStates → FileMap → Bytes → Bytes → Bytes → Tested → Type 0
IsTested states files directory text printed (Tests tests) = AreAskedTests states files directory text printed (tests_of tests.items)
IsTested states files directory text printed (Refused refusal) = IsRefusedBySource states files directory text printed refusal
