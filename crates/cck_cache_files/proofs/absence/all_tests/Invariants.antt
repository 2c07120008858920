use Rattle.std.proofs.Common.{◌≡◌, ◌++◌}
use Rattle.cck_cache_files.proofs.absence.all_tests.Given as goal

-- the tests so far, and those that are left
abbrev pub invariant-loop-test : goal.invariant-loop-test
invariant-loop-test l = l.all.items ++ l.test-iterator.rest.items ≡ l.fn.tests.items ++ l.fn.others.items
