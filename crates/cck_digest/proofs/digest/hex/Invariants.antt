use Rattle.std.proofs.Common.{◌≡◌, string_bytes, take}
use Rattle.cck_digest.specs.Digest.{hex_text}
use Rattle.cck_digest.proofs.digest.hex.Given as goal

-- the digits of the bytes so far
abbrev pub invariant-loop-byte : goal.invariant-loop-byte
invariant-loop-byte l = string_bytes l.text ≡ hex_text (take l.byte-index l.bytes)
