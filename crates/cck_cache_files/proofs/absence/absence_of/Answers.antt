use Rattle.std.proofs.Common.{◌≡◌, ◌++◌, Option, Some, None, List, ℕ, IsTrue, inl, inr, true, refl, ap, subst}
use Rattle.std.specs.BTreeSet.{BTreeSet}
use Rattle.std.specs.Global.{Vec}
use Rattle.cck_cache_text.specs.Absent.{AreAbsentNames, IsAbsentName}
use Rattle.cck_cache_rules.specs.PathTest.{Test, tests_of}
use Rattle.cck_cache_text.specs.SearchList.{search_fields}
use Rattle.cck_cache_text.specs.Sets.{has_key}
use Rattle.cck_include.specs.Marks.{Mark, Marks}
use Rattle.cck_path.specs.Bytes.{Bytes, lists_of}
use Rattle.cck_cache_files.specs.Absence.{AreTestsAfter}
use Rattle.cck_cache_files.specs.TestsAt.{AreTestsAt, AreTestsFor}
use Rattle.cck_cache_files.specs.SearchedPaths.{AreSearched, HasDoubtfulDirectory}
use Rattle.cck_cache_files.proofs.AbsenceLemmas.{tests_joined}
use Rattle.cck_cache_files.proofs.TestsAtLemmas.{tests_for_same}
use Rattle.cck_cache_files.proofs.absence.absence_of.Goals as goal

pub returns-in_default-2-clause-absence : goal.returns-in_default-2-clause-absence
returns-in_default-2-clause-absence g c = record {
  search = search_fields c.in-Some.search;
  is_search = rw c.in-Some.is at c.in_ok-search.ensures;
  unknown = λ marks are. subst (λ (given : List Bytes). AreAbsentNames marks c.args.preprocessed.now.text.now given (search_fields c.in-Some.search) None) (ap lists_of c.deref.ensures.value)
      (subst (λ (o : Option (BTreeSet (Vec ℕ))). AreAbsentNames marks c.args.preprocessed.now.text.now (lists_of c.deref.result.now) (search_fields c.in-Some.search) o) c.in_default-2.is (c.in_ok-names.ensures marks are));
}

pub returns-in_default-3-clause-absence : goal.returns-in_default-3-clause-absence
returns-in_default-3-clause-absence g c =
    let search = search_fields c.in-Some.search in
    let names = c.in-Some-2.names in
    let states = c.tests_at.new.states in
    let found : AreTestsFor states c.args.preprocessed.now.request.now.directory.now (λ name. IsTrue (has_key names name)) None =
    subst (λ (d : Bytes). AreTestsFor states d (λ name. IsTrue (has_key names name)) None) c.as_bytes.ensures.value (rw c.in_default-3.is at c.in_ok-earlier.ensures.tests) in
    inl (record {
      search = search;
      is_search = rw c.in-Some.is at c.in_ok-search.ensures;
      doubtful = λ marks are.
          let named = subst (λ (given : List Bytes). AreAbsentNames marks c.args.preprocessed.now.text.now given search (Some c.in-Some-2.names)) (ap lists_of c.deref.ensures.value)
          (subst (λ (o : Option (BTreeSet (Vec ℕ))). AreAbsentNames marks c.args.preprocessed.now.text.now (lists_of c.deref.result.now) search o) c.in-Some-2.is (c.in_ok-names.ensures marks are)) in
          (found.0, (named.1 found.0).0 found.1, found.2);
    })

pub returns-in_default-4-clause-absence : goal.returns-in_default-4-clause-absence
returns-in_default-4-clause-absence g c =
    let search = search_fields c.in-Some.search in
    let found : HasDoubtfulDirectory c.args.preprocessed.now.request.now.directory.now search =
    subst (λ (d : Bytes). HasDoubtfulDirectory d search) c.as_bytes-2.ensures.value (rw c.in_default-4.is at c.in_ok-searched.ensures.tests) in
    inr (record { search = search; is_search = rw c.in-Some.is at c.in_ok-search.ensures; doubtful = found })

pub returns-in-None-clause-absence : goal.returns-in-None-clause-absence
returns-in-None-clause-absence g c = record {
  search = search_fields c.in-Some.search;
  is_search = rw c.in-Some.is at c.in_ok-search.ensures;
  linked = rw c.in-None.is at c.in_ok-tests_after.ensures.tests;
}

pub returns-clause-absence : goal.returns-clause-absence
returns-clause-absence g c =
    let directory = c.args.preprocessed.now.request.now.directory.now in
    let text = c.args.preprocessed.now.text.now in
    let search = search_fields c.in-Some.search in
    let names = c.in-Some-2.names in
    let states = c.tests_at.new.states in
    let earlier = tests_of c.in-Some-3.earlier.items in
    let searched = tests_of c.in-Some-4.searched.items in
    let IsName : Bytes → Type 0 = λ name. IsTrue (has_key names name) in
    let first = c.in_ok-all_tests.field-0.items in
    let first_are : tests_of first ≡ searched ++ earlier =
    tests_joined first c.in-Some-4.searched.items c.in-Some-3.earlier.items searched c.in_ok-all_tests.ensures refl in
    let named : (marks : List Mark) → Marks true text marks → AreAbsentNames marks text (lists_of c.args.preprocessed.now.request.now.arguments.items) search (Some names) =
    λ marks are. subst (λ (given : List Bytes). AreAbsentNames marks text given search (Some c.in-Some-2.names)) (ap lists_of c.deref.ensures.value)
    (subst (λ (o : Option (BTreeSet (Vec ℕ))). AreAbsentNames marks text (lists_of c.deref.result.now) search o) c.in-Some-2.is (c.in_ok-names.ensures marks are)) in
    let found : AreTestsAt states directory IsName earlier = subst (λ (d : Bytes). AreTestsAt states d IsName earlier) c.as_bytes.ensures.value (rw c.in-Some-3.is at c.in_ok-earlier.ensures.tests) in
    record {
      search = search;
      is_search = rw c.in-Some.is at c.in_ok-search.ensures;
      listed = λ marks are. (named marks are).0;
      searched = searched;
      are_searched = subst (λ (d : Bytes). AreSearched d search searched) c.as_bytes-2.ensures.value (rw c.in-Some-4.is at c.in_ok-searched.ensures.tests);
      earlier = earlier;
      earlier_are = λ marks are. tests_for_same states directory IsName (IsAbsentName marks text (lists_of c.args.preprocessed.now.request.now.arguments.items) search) earlier
          (λ name has. ((named marks are).1 name).0 has) (λ name is. ((named marks are).1 name).1 is) found;
      after = subst (λ (ts : List Test). AreTestsAfter c.args.preprocessed.now.renames search directory text ts (tests_of c.in-Some-5.tests.items)) first_are (rw c.in-Some-5.is at c.in_ok-tests_after.ensures.tests);
    }
