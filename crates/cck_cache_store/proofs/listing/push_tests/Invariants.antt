use Rattle.std.proofs.Common.{◌≡◌, ◌++◌, take}
use Rattle.std.specs.List.{flat_map}
use Rattle.cck_cache_rules.specs.PathTest.{tests_of}
use Rattle.cck_cache_store.specs.Listing.{test_line}
use Rattle.cck_cache_store.proofs.listing.push_tests.Given as goal

-- the lines of the tests so far
abbrev pub invariant-loop-test : goal.invariant-loop-test
invariant-loop-test l = l.lines.items ≡ l.fn.lines.items ++ flat_map test_line (tests_of (take l.test-index l.tests))
