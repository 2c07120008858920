use Rattle.std.proofs.Common.{◌≡◌, ℕ, ◌≤◌, List, length, drop}
use Rattle.std.specs.Prelude.{sum}
use Rattle.cck_cache_rules.proofs.removal.removed_count.Given as goal

-- what is left from here on has these bytes, which are not too many
pub record IsLeft (sizes : List ℕ) (most count left : ℕ) : Type 0 where
  pub within : count ≤ length sizes
  pub left_is : left ≡ sum (drop count sizes)
  pub fits : left ≤ most

abbrev pub invariant-loop-count : goal.invariant-loop-count
invariant-loop-count l = IsLeft l.sizes l.most l.count l.left

abbrev pub decreases-loop-count : goal.decreases-loop-count
decreases-loop-count l = l.count
