use Rattle.std.proofs.Common.{◌≡◌, ◌≤◌, ◌-◌, length}
use Rattle.cck_cache_text.specs.Condition.{depth_in, depth_of}
use Rattle.cck_cache_text.proofs.condition.depth_of.Given as goal

-- the depth after all is that after what is left
abbrev pub invariant-loop : goal.invariant-loop
invariant-loop l = record {
  bound : l.depth ≤ l.counter;
  depth : depth_in (length l.text - l.counter) l.depth l.rest ≡ depth_of l.text;
}
