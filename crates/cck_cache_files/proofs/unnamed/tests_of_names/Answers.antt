use Rattle.std.proofs.Common.{IsTrue}
use Rattle.std.specs.Prelude.{Contains}
use Rattle.cck_cache_rules.specs.PathTest.{tests_of}
use Rattle.cck_cache_text.specs.Sets.{has_key}
use Rattle.cck_cache_files.proofs.StateLemmas.{KeepsStates-trans}
use Rattle.cck_path.specs.Bytes.{Bytes, lists_of}
use Rattle.cck_cache_files.proofs.UnnamedLemmas.{by_spelling, fronts_kept, fronts_same, key_listed, listed_key}
use Rattle.cck_cache_files.proofs.unnamed.tests_of_names.Goals as goal

pub returns-clause-tests : goal.returns-clause-tests
returns-clause-tests g c =
    let files = c.args.files.now.files in
    let directory = c.args.directory.now in
    let names = c.args.names.now in
    let old = c.spellings_of.new.states in
    let new = c.unread_tests_where.new.states in
    let keeps = c.unread_tests_where.ensures.kept in
    let left = c.in-Some.found.left in
    let IsName : Bytes → Type 0 = λ name. IsTrue (has_key names name) in
    let found = rw c.in-Some.is at c.in_ok-found.ensures.spellings in
    record {
      unread = tests_of c.in-Some-2.tests.items;
      unread_are = by_spelling old new keeps files directory IsName c.in-Some.found.is_any (tests_of c.in-Some-2.tests.items) found.0 (rw c.in-Some-2.is at c.in_ok-tests.ensures.tests);
      fronts = lists_of left.keys;
      fronts_are = fronts_same new files directory IsName IsName (λ front. IsTrue (has_key left front)) (Contains (lists_of left.keys)) (λ name is. is) (λ name is. is) (λ front has. key_listed left front has) (λ front at. listed_key left front at)
          (fronts_kept old new keeps files directory IsName (λ front. IsTrue (has_key left front)) found.1);
      tests_are = c.in_ok-add_directories.ensures;
    }

pub returns-in_default-2-clause-kept : goal.returns-in_default-2-clause-kept
returns-in_default-2-clause-kept g c =
    KeepsStates-trans c.args.states.now c.spellings_of.new.states c.unread_tests_where.new.states c.spellings_of.ensures.kept c.unread_tests_where.ensures.kept
