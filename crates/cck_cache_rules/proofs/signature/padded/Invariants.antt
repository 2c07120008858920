use Rattle.std.proofs.Common.{take, map, bit_xor}
use Rattle.cck_cache_rules.proofs.signature.padded.Given as goal

-- the bytes of the key so far, combined with the byte
abbrev pub invariant-loop-digit : goal.invariant-loop-digit
invariant-loop-digit g l = g.H.HashState.holds l.state (map (λ k. bit_xor k l.fn.byte) (take l.digit-index l.key))
