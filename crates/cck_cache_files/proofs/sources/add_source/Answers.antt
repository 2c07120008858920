use Rattle.std.proofs.Common.{◌≡◌, ◌∙◌, inl, inr, false, List, Some, None, sym, ap, subst}
use Rattle.cck_cache_text.specs.DependencyPragma.{has_dependency}
use Rattle.cck_cache_text.specs.HeaderTests.{AreTests, test_fields}
use Rattle.cck_cache_text.specs.TestName.{TestFields}
use Rattle.cck_cache_text.specs.SearchList.{search_fields}
use Rattle.cck_cache_text.specs.Sets.{Adds}
use Rattle.cck_cache_text.specs.Splices.{unspliced}
use Rattle.cck_cache_text.specs.TestedPaths.{IsPathOfTests}
use Rattle.cck_path.specs.Bytes.{Bytes}
use Rattle.cck_cache_files.specs.Sources.{AreSourceTests}
use Rattle.cck_cache_files.proofs.SourceLemmas.{asks_by}
use Rattle.cck_cache_files.proofs.sources.add_source.Goals as goal

pub returns-then-has_doubtful_lines : goal.returns-then-has_doubtful_lines
returns-then-has_doubtful_lines c = inl (sym c.if-has_doubtful_lines.ensures)

pub returns-then-has_dependency_pragma : goal.returns-then-has_dependency_pragma
returns-then-has_dependency_pragma c = ap has_dependency (sym (c.deref.ensures.value ∙ c.in_ok-text.ensures)) ∙ sym c.if-has_dependency_pragma.ensures

pub returns-in_default : goal.returns-in_default
returns-in_default c =
    let text : c.deref-2.result.now ≡ unspliced c.args.contents.now = c.deref-2.ensures.value ∙ c.in_ok-text.ensures in
    let found : AreTests c.deref-2.result.now None = rw c.in_default.is at c.in_ok-tests.ensures in
    inr (subst (λ (t : Bytes). AreTests t None) text found)

pub returns : goal.returns
returns c =
    let contents = c.args.contents.now in
    let directories = (search_fields c.args.search.now).directories in
    let tests = test_fields c.in-Some.tests.items in
    let none : has_dependency (unspliced contents) ≡ false = ap has_dependency (sym (c.deref.ensures.value ∙ c.in_ok-text.ensures)) ∙ sym c.if-has_dependency_pragma.ensures in
    let text : c.deref-2.result.now ≡ unspliced contents = c.deref-2.ensures.value ∙ c.in_ok-text.ensures in
    let found : AreTests c.deref-2.result.now (Some tests) = rw c.in-Some.is at c.in_ok-tests.ensures in
    let are : AreSourceTests contents (Some tests) = (sym c.if-has_doubtful_lines.ensures, subst (λ (t : Bytes). AreTests t (Some tests)) text found) in
    let added : Adds (IsPathOfTests directories c.args.name.now tests) c.args.paths.now c.add_tested_paths.new.paths =
    subst (λ (ts : List TestFields). Adds (IsPathOfTests directories c.args.name.now ts) c.args.paths.now c.add_tested_paths.new.paths) (ap test_fields c.deref-3.ensures.value) c.in_ok-add_tested_paths.ensures in (
      (none, (tests, are)),
      asks_by directories c.args.name.now contents tests c.args.paths.now c.add_tested_paths.new.paths are added,
    )
