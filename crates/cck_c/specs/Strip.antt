-- what remains of an argument or a text, in the buffer of a caller
use Rattle.std.specs.Prelude.{◌≡◌, ◌<◌, ◌++◌, ℕ, List, length, drop}

-- the buffer begins with what is kept, whose length is written, and its rest is as before; something is cut
pub record IsStripped (kept text old new : List ℕ) (written : ℕ) : Type 0 where
  pub size : written ≡ length kept
  pub shorter : length kept < length text
  pub buffer : new ≡ kept ++ drop (length kept) old
