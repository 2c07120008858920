use Rattle.std.proofs.Common.{take}
use Rattle.cck_cache_rules.specs.PathTest.{tests_of}
use Rattle.cck_cache_files.specs.RealPaths.{AreAbsentLinks}
use Rattle.cck_cache_files.proofs.real_paths.absent_links.Given as goal

-- the links of the tests so far
abbrev pub invariant-loop-test : goal.invariant-loop-test
invariant-loop-test g l = AreAbsentLinks (tests_of (take l.test-index l.tests)) (tests_of l.links.real.items)
