-- what a recording that was killed left
use Rattle.std.specs.Prelude.{◌≡◌, Bool, true, ℤ, ◌<ℤ◌, ◌+ℤ◌, pos}

-- a file that was not renamed, and that is older than an hour, by these seconds
pub record IsAbandoned (is_new : Bool) (written now : ℤ) : Type 0 where
  pub new : is_new ≡ true
  pub old : (written +ℤ pos 3600) <ℤ now
