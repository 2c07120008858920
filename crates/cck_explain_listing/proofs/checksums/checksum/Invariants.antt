use Rattle.std.proofs.Common.{◌≡◌, take}
use Rattle.std.specs.Prelude.{fold}
use Rattle.cck_explain_listing.specs.Checksum.{next}
use Rattle.cck_explain_listing.proofs.checksums.checksum.Given as goal

-- the state after the bytes so far
abbrev pub invariant-loop-byte : goal.invariant-loop-byte
invariant-loop-byte l = l.state ≡ fold next 14695981039346656037 (take l.byte-index l.bytes)
