use Rattle.std.proofs.Common.{◌≡◌, ◌≤◌, ◌+◌, ◌-◌, length, drop, nat_eq}
use Rattle.std.specs.List.{common_prefix_len}
use Rattle.cck_path.proofs.path.same_chunks_len.Given as goal

-- the chunks before this position are the same, and the count continues from it
abbrev pub invariant-loop-at : goal.invariant-loop-at
invariant-loop-at g l = (l.at ≤ length l.a) × (l.at ≤ length l.b) × (common_prefix_len nat_eq l.a l.b ≡ l.at + common_prefix_len nat_eq (drop l.at l.a) (drop l.at l.b))

abbrev pub decreases-loop-at : goal.decreases-loop-at
decreases-loop-at g l = length l.a - l.at
