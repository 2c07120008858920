use Rattle.std.proofs.Common.{◌≡◌, ℕ, List, [], false, map, length, get_or, sym, ap, ◌∙◌, subst, arith}
use Rattle.std.proofs.lemmas.List.{get_or-map, length-map}
use Rattle.cck_cache_text.specs.HeaderTests.{fields_of, test_fields}
use Rattle.cck_cache_text.specs.TestName.{TestFields}
use Rattle.cck_cache_text.specs.SearchList.{search_fields}
use Rattle.cck_cache_text.specs.Sets.{Adds}
use Rattle.cck_cache_text.specs.TestedPaths.{IsPathOfTest}
use Rattle.cck_cache_text.proofs.SetLemmas.{adds_more, adds_none_below}
use Rattle.cck_cache_text.proofs.TestedLemmas.{OfTest, paths_of_tests}
use Rattle.cck_cache_text.proofs.tested_paths.add_tested_paths.Goals as goal

pub loop-test-init : goal.loop-test-init
loop-test-init c = adds_none_below (OfTest (search_fields c.args.search.now).directories c.args.file.now (test_fields c.args.tests.now)) c.args.paths.now

pub loop-test-preserved : goal.loop-test-preserved
loop-test-preserved c =
    let directories = (search_fields c.args.search.now).directories in
    let file = c.args.file.now in
    let tests = c.args.tests.now in
    let i = c.loop-test.test-index in
    let test = c.test-item.result in
    let none : TestFields = record { name = []; is_quoted = false } in
    let at : fields_of test ≡ get_or (test_fields tests) i none = ap fields_of c.test-item.is ∙ sym (get_or-map fields_of tests i test none c.loop-test-test.true) in
    adds_more (OfTest directories file (test_fields tests)) i c.args.paths.now c.loop-test.paths c.add_paths.new.paths c.loop-test.invariant
    (subst (λ (t : TestFields). Adds (IsPathOfTest directories file t) c.loop-test.paths c.add_paths.new.paths) at
    (subst (λ (ds : List (List ℕ)). Adds (IsPathOfTest ds file (fields_of test)) c.loop-test.paths c.add_paths.new.paths) (ap (map (λ d. d.items)) c.deref.ensures.value) c.in_ok-add_paths.ensures))

pub returns : goal.returns
returns c =
    let end : c.loop-test.test-index ≡ length (test_fields c.args.tests.now) = omega (arith, length-map c.args.tests.now fields_of) in
    paths_of_tests (search_fields c.args.search.now).directories c.args.file.now (test_fields c.args.tests.now) c.loop-test.test-index c.args.paths.now c.loop-test.paths end c.loop-test.invariant
