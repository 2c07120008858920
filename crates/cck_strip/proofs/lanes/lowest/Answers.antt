use Rattle.std.proofs.Common.{arith, w64}
use Rattle.std.proofs.lemmas.Nat.Bits.{bit_at-trailing_zeros}
use Rattle.cck_strip.proofs.lanes.lowest.Goals as goal

pub returns : goal.returns
returns c =
    let lowest = bit_at-trailing_zeros w64 c.args.marks (omega (arith, c.requires)) c.ranges.marks.fits in
    record { bound = lowest.0; below = lowest.2 }
