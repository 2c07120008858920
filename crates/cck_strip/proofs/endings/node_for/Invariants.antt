use Rattle.std.proofs.Common.{length}
use Rattle.cck_strip.specs.Endings.{IsWithin}
use Rattle.cck_strip.proofs.EndingLemmas.{Passed}
use Rattle.cck_strip.proofs.WalkLemmas.{nodes_left}
use Rattle.cck_strip.proofs.endings.node_for.Given as goal

abbrev pub invariant-loop-next : goal.invariant-loop-next
invariant-loop-next l = record {
  within : IsWithin (length l.nodes) l.next;
  passed : Passed l.nodes l.fn.from l.byte l.next;
}

abbrev pub decreases-loop-next : goal.decreases-loop-next
decreases-loop-next l = nodes_left l.nodes l.next
