use Rattle.std.proofs.Common.{take}
use Rattle.cck_cache_rules.specs.PathTest.{tests_of}
use Rattle.cck_cache_files.specs.PathTests.{AllHold}
use Rattle.cck_cache_files.proofs.path_tests.first_failing.Given as goal

-- the tests so far hold
abbrev pub invariant-loop-test : goal.invariant-loop-test
invariant-loop-test g l = AllHold (tests_of (take l.test-index l.tests)) l.searched.identities.items
