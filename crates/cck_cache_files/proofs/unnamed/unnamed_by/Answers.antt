use Rattle.std.proofs.Common.{inl, inr, List, IsTrue, Option, true, ap, subst}
use Rattle.std.specs.Global.{Vec}
use Rattle.std.specs.Option.{option_map}
use Rattle.std.specs.Prelude.{Contains}
use Rattle.cck_cache_text.specs.LookedAt.{IsLookedAt}
use Rattle.cck_cache_rules.specs.PathTest.{tests_of}
use Rattle.cck_cache_text.specs.SearchList.{search_fields}
use Rattle.cck_cache_text.specs.Sets.{IsSetOf, has_key}
use Rattle.cck_cache_files.specs.declared.copies.KnownFile.{KnownFile}
use Rattle.cck_files.specs.FileMap.{FileMap}
use Rattle.cck_files.proofs.CallsLemmas.{keeps_all}
use Rattle.cck_include.specs.Marks.{Mark, Marks}
use Rattle.cck_path.specs.Bytes.{Bytes, lists_of}
use Rattle.cck_cache_files.specs.Unnamed.{AreCompared, AreTestsOfNames, HasUnclear}
use Rattle.cck_cache_files.proofs.UnnamedLemmas.{by_spelling_same, fronts_same}
use Rattle.cck_cache_files.proofs.unnamed.unnamed_by.Goals as goal

pub returns-in_default-2-clause-unnamed : goal.returns-in_default-2-clause-unnamed
returns-in_default-2-clause-unnamed g c =
    inr ((subst (λ (o : Option (Vec KnownFile)). AreCompared c.args.files.now.files c.args.preprocessed.now.request.now c.args.preprocessed.now.text.now (tests_of c.args.asked.now) (option_map (λ all. all.items) o)) c.in_default-2.is c.in_ok-known.ensures.compared).0)

pub returns-clause-unnamed : goal.returns-clause-unnamed
returns-clause-unnamed g c =
    let directory = c.args.preprocessed.now.request.now.directory.now in
    let text = c.args.preprocessed.now.text.now in
    let arguments = lists_of c.args.preprocessed.now.request.now.arguments.items in
    let search = search_fields c.in-Some.search in
    let names = c.in_ok-names.names in
    let states = c.tests_of_names.new.states in
    let IsName : Bytes → Type 0 = λ name. IsTrue (has_key names name) in
    let found : HasUnclear states directory IsName = subst (λ (d : Bytes). HasUnclear states d IsName) c.as_bytes-directory.ensures.value (rw c.in-None.is at c.in_ok-found.ensures.tests) in
    let looked : (marks : List Mark) → Marks true text marks → IsSetOf (IsLookedAt marks text arguments search.directories) names =
    λ marks are. subst (λ (given : List Bytes). IsSetOf (IsLookedAt marks text given search.directories) names) (ap lists_of c.deref.ensures.value) (c.in_ok-names.ensures marks are) in
    inl (record {
      search = search;
      is_search = rw c.in-Some.is at c.in_ok-search.ensures;
      unclear = λ marks are. (found.0, (looked marks are found.0).0 found.1, found.2);
    })

pub returns-in-Some-found-clause-unnamed : goal.returns-in-Some-found-clause-unnamed
returns-in-Some-found-clause-unnamed g c =
    let directory = c.args.preprocessed.now.request.now.directory.now in
    let text = c.args.preprocessed.now.text.now in
    let arguments = lists_of c.args.preprocessed.now.request.now.arguments.items in
    let search = search_fields c.in-Some.search in
    let names = c.in_ok-names.names in
    let states = c.tests_of_names.new.states in
    let files = c.args.files.now.files in
    let tests = tests_of c.in-Some-found.tests.items in
    let IsName : Bytes → Type 0 = λ name. IsTrue (has_key names name) in
    let looked : (marks : List Mark) → Marks true text marks → IsSetOf (IsLookedAt marks text arguments search.directories) names =
    λ marks are. subst (λ (given : List Bytes). IsSetOf (IsLookedAt marks text given search.directories) names) (ap lists_of c.deref.ensures.value) (c.in_ok-names.ensures marks are) in
    let over : AreTestsOfNames states c.compared_files.new.files.files directory IsName tests =
    subst (λ (d : Bytes). AreTestsOfNames states c.compared_files.new.files.files d IsName tests) c.as_bytes-directory.ensures.value (rw c.in-Some-found.is at c.in_ok-found.ensures.tests) in
    let found : AreTestsOfNames states files directory IsName tests = subst (λ (m : FileMap). AreTestsOfNames states m directory IsName tests) c.in_ok-known.ensures.keeps.same_map over in
    record {
      search = search;
      is_search = rw c.in-Some.is at c.in_ok-search.ensures;
      unread = found.unread;
      unread_are = λ marks are. by_spelling_same states directory IsName (IsLookedAt marks text arguments search.directories) (λ name has. (looked marks are name).0 has) (λ name is. (looked marks are name).1 is) files found.unread found.unread_are;
      fronts = found.fronts;
      fronts_are = λ marks are. fronts_same states files directory IsName (IsLookedAt marks text arguments search.directories) (Contains found.fronts) (Contains found.fronts) (λ name has. (looked marks are name).0 has)
          (λ name is. (looked marks are name).1 is) (λ front at. at) (λ front at. at) found.fronts_are;
      tests_are = found.tests_are;
    }

pub returns-clause-keeps : goal.returns-clause-keeps
returns-clause-keeps g c =
    keeps_all c.args.files.now c.compared_files.new.files c.tests_of_names.new.files c.in_ok-known.ensures.keeps c.in_ok-found.ensures.keeps

pub returns-in-Some-found-clause-keeps : goal.returns-in-Some-found-clause-keeps
returns-in-Some-found-clause-keeps g c =
    keeps_all c.args.files.now c.compared_files.new.files c.tests_of_names.new.files c.in_ok-known.ensures.keeps c.in_ok-found.ensures.keeps
