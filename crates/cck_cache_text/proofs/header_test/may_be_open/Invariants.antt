use Rattle.std.proofs.Common.{◌≡◌, length}
use Rattle.cck_cache_text.specs.HeaderTests.{may_be_open}
use Rattle.cck_cache_text.proofs.header_test.may_be_open.Given as goal

-- a comment may be open after the line if one may be after what is left
abbrev pub invariant-loop-rest : goal.invariant-loop-rest
invariant-loop-rest l = may_be_open l.is_open l.last l.rest ≡ may_be_open l.fn.is_open 0 l.line

abbrev pub decreases-loop-rest : goal.decreases-loop-rest
decreases-loop-rest l = length l.rest
