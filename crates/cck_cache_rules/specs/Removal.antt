-- which files go where there are too many bytes
use Rattle.std.specs.Prelude.{ℕ, ◌<◌, ◌≤◌, List, length, drop, sum}

-- so many of the first sizes go that the others are together no more than this, and no fewer would do
pub record IsRemovedCount (sizes : List ℕ) (most count : ℕ) : Type 0 where
  pub within : count ≤ length sizes
  pub fits : sum (drop count sizes) ≤ most
  pub fewest : (fewer : ℕ) → fewer < count → most < sum (drop fewer sizes)
