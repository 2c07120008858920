use Rattle.std.proofs.Common.{◌≡◌, ◌++◌, map, take}
use Rattle.cck_cache_rules.specs.PathStatus.{status_bytes, statuses_of}
use Rattle.cck_cache_rules.specs.PathTest.{test_bytes, tests_of}
use Rattle.cck_cache_rules.specs.Reading.{byte_lists}
use Rattle.cck_cache_rules.proofs.entry_file.parts_of.Given as goal

-- the parts of the statuses so far
abbrev pub invariant-loop-status : goal.invariant-loop-status
invariant-loop-status l = byte_lists l.parts ≡ map status_bytes (statuses_of (take l.status-index l.statuses))

-- and of the tests so far
abbrev pub invariant-loop-test : goal.invariant-loop-test
invariant-loop-test l = byte_lists l.parts ≡ byte_lists l.initial.parts ++ map test_bytes (tests_of (take l.test-index l.tests))
