-- The tests of the paths at which sources look for headers.
use Rattle.std.proofs.Common.{◌≡◌, ℕ, List, Some, None, IsTrue, true, subst}
use Rattle.std.specs.BTreeSet.{BTreeSet}
use Rattle.std.specs.Global.{Vec}
use Rattle.cck_cache_files.specs.TestsAt.{AreTestsAt, AreTestsFor, IsDoubtfulAt}
use Rattle.cck_cache_files.specs.Tested.{AreAskedTests, HasDoubtfulTest, IsAskedPath}
use Rattle.cck_cache_files.proofs.TestsAtLemmas.{tests_for_same}
use Rattle.cck_cache_text.specs.Names.{is_named}
use Rattle.cck_cache_rules.specs.PathTest.{Test}
use Rattle.cck_cache_text.specs.SearchList.{IsSearchList, SearchFields}
use Rattle.cck_cache_text.specs.Sets.{has_key}
use Rattle.cck_cache_files.specs.Sources.{AreAsked}
use Rattle.cck_cache_files.specs.declared.path_states.PathStates.{PathStates}
use Rattle.cck_cache_files.specs.declared.sources.Asked.{Asked}
use Rattle.cck_cache_files.specs.declared.sources.Asked.TheVariants.{Paths}
use Rattle.cck_files.specs.FileMap.{FileMap}
use Rattle.cck_include.specs.Marks.{Mark, Marks}
use Rattle.cck_path.specs.Bytes.{Bytes}
use Rattle.cck_path.specs.Text.{join_path}

-- what the sources of a text ask for, by its marks
abbrev pub AreAskedBy : FileMap → Bytes → Bytes → List Bytes → Asked → Type 0
AreAskedBy files directory text directories asked = (marks : List Mark) → Marks true text marks → AreAsked files directory (λ name. IsTrue (is_named marks name)) directories asked

pub asked_is : (files : FileMap) (cwd directory text : Bytes) (directories : List Bytes) (found asked : Asked) → cwd ≡ directory → found ≡ asked → AreAskedBy files cwd text directories found → AreAskedBy files directory text directories asked
asked_is files cwd directory text directories found asked same is are =
    subst (λ (d : Bytes). AreAskedBy files d text directories asked) same (subst (λ (a : Asked). AreAskedBy files cwd text directories a) is are)

module _ (states : PathStates) (files : FileMap) (cwd directory text printed : Bytes) (search : SearchFields) (paths : BTreeSet (Vec ℕ)) (same : cwd ≡ directory) (is_search : IsSearchList printed (Some search)) (asked : AreAskedBy files directory text search.directories (Paths paths)) where
  -- the tests at the paths that the sources of a text ask for
  pub tests_of_text : (tests : List Test) → AreTestsFor states cwd (λ name. IsTrue (has_key paths name)) (Some tests) → AreAskedTests states files directory text printed tests
  tests_of_text tests found = record {
    search = search;
    is_search = is_search;
    plain = λ marks are. (asked marks are).0;
    tests_are = λ marks are. tests_for_same states directory (λ name. IsTrue (has_key paths name)) (IsAskedPath files directory marks search.directories) tests
        (λ name has. ((asked marks are).1 name).0 has) (λ name is. ((asked marks are).1 name).1 is)
        (subst (λ (d : Bytes). AreTestsAt states d (λ name. IsTrue (has_key paths name)) tests) same found);
  }

  -- one of these paths is in doubt
  pub doubtful_of_text : AreTestsFor states cwd (λ name. IsTrue (has_key paths name)) None → HasDoubtfulTest states files directory text printed
  doubtful_of_text found = record {
    search = search;
    is_search = is_search;
    doubtful = λ marks are. (found.0, ((asked marks are).1 found.0).0 found.1, subst (λ (d : Bytes). IsDoubtfulAt states (join_path d found.0)) same found.2);
  }
