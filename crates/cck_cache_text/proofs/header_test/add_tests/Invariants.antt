use Rattle.cck_cache_text.specs.HeaderTests.{Gains, test_fields}
use Rattle.cck_cache_text.proofs.HeaderTestLemmas.{IsTestBelow, NoneBlindBelow}
use Rattle.cck_cache_text.proofs.header_test.add_tests.Given as goal

-- the tests at the places so far were added, and each of them can be judged
abbrev pub invariant-loop-place : goal.invariant-loop-place
invariant-loop-place l = record {
  known : NoneBlindBelow l.is_open l.line l.place;
  gained : Gains (IsTestBelow l.is_open l.line l.place) (test_fields l.initial.tests.items) (test_fields l.tests.items);
}
