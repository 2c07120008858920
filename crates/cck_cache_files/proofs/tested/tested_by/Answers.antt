use Rattle.cck_cache_text.specs.SearchList.{search_fields}
use Rattle.cck_cache_files.specs.declared.sources.Asked.TheVariants.{Paths, Unknown, Time}
use Rattle.cck_cache_rules.specs.PathTest.{tests_of}
use Rattle.cck_cache_files.proofs.SourceTestLemmas.{asked_is, doubtful_of_text, tests_of_text}
use Rattle.cck_cache_files.proofs.tested.tested_by.Goals as goal

pub returns-in-Unknown-clause-tested : goal.returns-in-Unknown-clause-tested
returns-in-Unknown-clause-tested g c =
    asked_is c.args.files.now.files _ c.args.preprocessed.now.request.now.directory.now c.args.preprocessed.now.text.now (search_fields c.in-Some.search).directories _ Unknown c.as_bytes.ensures.value c.in-Unknown.is c.in_ok-paths.ensures.asked

pub returns-in-Time-clause-tested : goal.returns-in-Time-clause-tested
returns-in-Time-clause-tested g c =
    asked_is c.args.files.now.files _ c.args.preprocessed.now.request.now.directory.now c.args.preprocessed.now.text.now (search_fields c.in-Some.search).directories _ Time c.as_bytes.ensures.value c.in-Time.is c.in_ok-paths.ensures.asked

pub returns-in-Some-2-clause-tested : goal.returns-in-Some-2-clause-tested
returns-in-Some-2-clause-tested g c =
    let search = search_fields c.in-Some.search in
    let files = c.args.files.now.files in
    let directory = c.args.preprocessed.now.request.now.directory.now in
    let text = c.args.preprocessed.now.text.now in
    let asked = asked_is files _ directory text search.directories _ (Paths c.in-Paths.paths) c.as_bytes.ensures.value c.in-Paths.is c.in_ok-paths.ensures.asked in
    tests_of_text c.tests_at.new.states files _ directory text c.args.preprocessed.now.printed.now search c.in-Paths.paths c.as_bytes-2.ensures.value (rw c.in-Some.is at c.in_ok-search.ensures) asked
    (tests_of c.in-Some-2.tests.items) (rw c.in-Some-2.is at c.in_ok-tests.ensures.tests)

pub returns-clause-tested : goal.returns-clause-tested
returns-clause-tested g c =
    let search = search_fields c.in-Some.search in
    let files = c.args.files.now.files in
    let directory = c.args.preprocessed.now.request.now.directory.now in
    let text = c.args.preprocessed.now.text.now in
    let asked = asked_is files _ directory text search.directories _ (Paths c.in-Paths.paths) c.as_bytes.ensures.value c.in-Paths.is c.in_ok-paths.ensures.asked in
    doubtful_of_text c.tests_at.new.states files _ directory text c.args.preprocessed.now.printed.now search c.in-Paths.paths c.as_bytes-2.ensures.value (rw c.in-Some.is at c.in_ok-search.ensures) asked
    (rw c.in-None.is at c.in_ok-tests.ensures.tests)
