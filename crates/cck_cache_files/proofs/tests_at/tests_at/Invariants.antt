use Rattle.std.proofs.Common.{length}
use Rattle.cck_cache_rules.specs.PathTest.{tests_of}
use Rattle.cck_cache_files.specs.PathStates.{KeepsStates}
use Rattle.cck_cache_files.specs.TestsAt.{AreTestsAt}
use Rattle.cck_cache_files.proofs.SetLemmas.{IsAmong}
use Rattle.cck_cache_files.proofs.tests_at.tests_at.Given as goal

-- the tests for the names so far
abbrev pub invariant-loop-name : goal.invariant-loop-name
invariant-loop-name g l = KeepsStates l.fn.states l.states × AreTestsAt l.states l.directory (IsAmong l.names.keys (length l.yielded)) (tests_of l.tests.items)
