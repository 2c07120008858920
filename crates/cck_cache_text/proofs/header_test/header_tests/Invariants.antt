use Rattle.std.proofs.Common.{◌≡◌, map}
use Rattle.cck_cache_text.specs.HeaderTests.{Gains, may_begin_open, test_fields}
use Rattle.cck_cache_text.proofs.HeaderTestLemmas.{IsTestAbove, NoneBlindAbove}
use Rattle.cck_cache_text.proofs.header_test.header_tests.Given as goal

-- the tests of the lines so far were added, each of them can be judged, and it is known whether the next line may begin in a comment
abbrev pub invariant-loop-line : goal.invariant-loop-line
invariant-loop-line l = record {
  inside : l.is_open ≡ may_begin_open (map (λ line. line.now) l.line-items) l.line-index;
  known : NoneBlindAbove (map (λ line. line.now) l.line-items) l.line-index;
  gained : Gains (IsTestAbove (map (λ line. line.now) l.line-items) l.line-index) (test_fields l.initial.tests.items) (test_fields l.tests.items);
}
