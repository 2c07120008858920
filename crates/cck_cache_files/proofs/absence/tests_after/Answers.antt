use Rattle.std.proofs.Common.{◌≡◌, ◌∙◌, ◌++◌, List, IsTrue, map, subst, sym}
use Rattle.cck_cache_rules.specs.PathTest.{Directory, Test, tests_of}
use Rattle.cck_cache_text.specs.Left.{IsLeft}
use Rattle.cck_cache_text.specs.SearchList.{search_fields}
use Rattle.cck_cache_text.specs.Sets.{IsSetOf, has_key}
use Rattle.cck_path.specs.Bytes.{Bytes, lists_of}
use Rattle.cck_cache_files.specs.Absence.{IsLinked}
use Rattle.cck_cache_files.specs.RealPaths.{ArePlaced, IsPathOf}
use Rattle.cck_cache_files.proofs.AbsenceLemmas.{left_keys, tests_joined}
use Rattle.cck_cache_files.proofs.RealPathLemmas.{placed_as}
use Rattle.cck_cache_files.proofs.absence.tests_after.Goals as goal

pub returns-in_default-clause-tests : goal.returns-in_default-clause-tests
returns-in_default-clause-tests g c =
    let found : (name : Bytes) × IsTrue (has_key c.in_ok-linked.linked name) = rw c.in_default.is at c.in_ok-links.ensures.tests in
    λ marks are. (found.0, (c.in_ok-linked.ensures marks are found.0).0 found.1)

pub returns-clause-tests : goal.returns-clause-tests
returns-clause-tests g c =
    let directory = c.args.preprocessed.now.request.now.directory.now in
    let left = c.in_ok-left.left in
    let links = c.in-Some.links in
    let IsKey : Bytes → Type 0 = λ name. IsTrue (has_key c.in_ok-linked.linked name) in
    let placed : ArePlaced (IsPathOf directory IsKey) links =
    subst (λ (d : Bytes). ArePlaced (IsPathOf d IsKey) links) c.as_bytes-directory.ensures.value (rw c.in-Some.is at c.in_ok-links.ensures.tests) in
    let others : List Test = tests_of c.args.first.items ++ map Directory (lists_of left.keys) in
    let others_are : tests_of c.add_directories.new.tests.items ≡ others = c.in_ok-add_directories.ensures in
    record {
      fronts = lists_of left.keys;
      fronts_are = λ marks are. left_keys directory marks left (subst (λ (d : Bytes). IsSetOf (IsLeft d marks) left) c.as_bytes-directory.ensures.value (c.in_ok-left.ensures.left marks are));
      links = links;
      links_are = λ marks are. placed_as (IsPathOf directory IsKey) (IsPathOf directory (IsLinked c.args.preprocessed.now.renames (search_fields c.args.search.now) marks c.args.preprocessed.now.text.now)) links
          (λ p at. (at.0, (c.in_ok-linked.ensures marks are at.0).0 at.1, at.2)) (λ p at. (at.0, (c.in_ok-linked.ensures marks are at.0).1 at.1, at.2)) placed;
      tests_are = tests_joined c.in_ok-all_tests.field-0.items c.in_ok-tests.tests.items links.real.items (others ++ tests_of links.plain.items) c.in_ok-all_tests.ensures
          (tests_joined c.in_ok-tests.tests.items c.add_directories.new.tests.items links.plain.items others c.in_ok-tests.ensures others_are);
    }
