use Rattle.std.proofs.Common.{◌≡◌, false, take}
use Rattle.std.specs.List.{list_any}
use Rattle.cck_strip.specs.Text.{is_separator}
use Rattle.cck_strip.proofs.boundary.has_separator.Given as goal

abbrev pub invariant-loop-byte : goal.invariant-loop-byte
invariant-loop-byte l = list_any is_separator (take l.byte-index l.bytes) ≡ false
