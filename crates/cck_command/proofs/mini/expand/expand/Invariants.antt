use Rattle.std.proofs.Common.{◌≡◌, ◌++◌, length}
use Rattle.cck_command.specs.MiniPrinted.{expanded}
use Rattle.cck_command.specs.MiniSeen.{macros_seen}
use Rattle.cck_command.proofs.mini.expand.expand.Given as goal

abbrev pub invariant-loop-left : goal.invariant-loop-left
invariant-loop-left l = l.out.items ++ expanded (macros_seen l.macros) l.left ≡ l.fn.out.items ++ expanded (macros_seen l.macros) l.text

abbrev pub decreases-loop-left : goal.decreases-loop-left
decreases-loop-left l = length l.left
