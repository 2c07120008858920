use Rattle.std.proofs.Common.{◌≡◌, ◌++◌, length}
use Rattle.cck_path.specs.Blocks.{entries_of}
use Rattle.cck_path.proofs.entries.take_first.Given as goal

-- what is left has the same entries
abbrev pub invariant-loop-left : goal.invariant-loop-left
invariant-loop-left g l = l.block ++ entries_of l.blocks ≡ l.left ++ entries_of l.others

abbrev pub decreases-loop-left : goal.decreases-loop-left
decreases-loop-left g l = length l.others
