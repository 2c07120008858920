use Rattle.cck_cache_text.specs.HeaderTests.{test_fields}
use Rattle.cck_cache_text.specs.SearchList.{search_fields}
use Rattle.cck_cache_text.specs.Sets.{Adds}
use Rattle.cck_cache_text.proofs.SetLemmas.{Below}
use Rattle.cck_cache_text.proofs.TestedLemmas.{OfTest}
use Rattle.cck_cache_text.proofs.tested_paths.add_tested_paths.Given as goal

-- the paths of the tests so far were added
abbrev pub invariant-loop-test : goal.invariant-loop-test
invariant-loop-test l = Adds (Below (OfTest (search_fields l.search).directories l.file (test_fields l.tests)) l.test-index) l.fn.paths l.paths
