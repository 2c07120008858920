use Rattle.std.proofs.Common.{◌≡◌, length}
use Rattle.cck_cache_text.specs.Condition.{after_comment}
use Rattle.cck_cache_text.proofs.condition.after_comment.Given as goal

-- the comment ends in what is left
abbrev pub invariant-loop-rest : goal.invariant-loop-rest
invariant-loop-rest l = after_comment l.rest ≡ after_comment l.text

abbrev pub decreases-loop-rest : goal.decreases-loop-rest
decreases-loop-rest l = length l.rest
