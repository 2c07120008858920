-- what is put into a writer through a buffer
use Rattle.std.specs.Prelude.{◌≡◌, ◌++◌}
use Rattle.std.specs.Io.KnownBytes.{Appends}
use Rattle.std.specs.declared.option.Option.{Option}
use Rattle.cck_path.specs.Bytes.{Bytes}

-- These bytes were put in. The writer held the known bytes `old` and now holds `new`; the buffer held `waiting` and now holds `left`.
-- What was written is the front of what waited and of these bytes, and the buffer holds the rest.
pub record PutsWaiting (old : Option Bytes) (waiting : Bytes) (new : Option Bytes) (left : Bytes) (bytes : Bytes) : Type 0 where
  pub written : Bytes
  pub appends : Appends old new written
  pub all : waiting ++ bytes ≡ written ++ left
