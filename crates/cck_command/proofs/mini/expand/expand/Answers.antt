use Rattle.std.proofs.Common.{arith}
use Rattle.cck_command.proofs.ExpandLemmas.{expand_end}
use Rattle.cck_command.proofs.mini.expand.expand.Goals as goal

pub returns : goal.returns
returns c = expand_end _ _ _ _ (omega arith) c.loop-left.invariant
