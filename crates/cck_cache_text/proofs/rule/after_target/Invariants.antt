use Rattle.std.proofs.Common.{◌≡◌, length}
use Rattle.cck_cache_text.specs.Rule.{after_target}
use Rattle.cck_cache_text.proofs.rule.after_target.Given as goal

-- the target ends in what is left
abbrev pub invariant-loop-rest : goal.invariant-loop-rest
invariant-loop-rest l = after_target l.rest ≡ after_target l.text

abbrev pub decreases-loop-rest : goal.decreases-loop-rest
decreases-loop-rest l = length l.rest
