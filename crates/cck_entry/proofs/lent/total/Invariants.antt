use Rattle.std.proofs.Common.{◌≡◌, ◌+◌, drop}
use Rattle.cck_entry.specs.Lent.{counts}
use Rattle.cck_entry.proofs.lent.total.Given as goal

abbrev pub invariant-loop-lent : goal.invariant-loop-lent
invariant-loop-lent l = l.count + counts (drop l.lent-index l.results) ≡ counts l.results
