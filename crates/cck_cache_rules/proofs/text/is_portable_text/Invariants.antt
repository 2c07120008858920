use Rattle.std.proofs.Common.{length, ◌+◌, ◌-◌}
use Rattle.cck_cache_rules.proofs.TextLemmas.{AreMarkersBelow}
use Rattle.cck_cache_rules.proofs.text.is_portable_text.Given as goal

-- the places that were searched
abbrev pub invariant-loop-from : goal.invariant-loop-from
invariant-loop-from l = AreMarkersBelow l.text l.base l.directory l.from

abbrev pub decreases-loop-from : goal.decreases-loop-from
decreases-loop-from l = length l.text + 1 - l.from
