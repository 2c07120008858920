use Rattle.std.proofs.Common.{◌≡◌, map, take}
use Rattle.std.specs.Int.{from_le_bytes, w32}
use Rattle.cck_cache_rules.specs.Checksum.{sums_of}
use Rattle.cck_cache_rules.proofs.checksum.sums_over.Given as goal

-- the sums over the words so far
abbrev pub invariant-loop-word : goal.invariant-loop-word
invariant-loop-word l = l.sums ≡ sums_of (map (from_le_bytes w32) (take l.word-index l.whole))
