use Rattle.std.proofs.lemmas.Simd.{length-chunk, get_or-chunk}
use Rattle.cck_strip.proofs.lanes.load.Goals as goal

pub returns : goal.returns
returns c = record {
  long = length-chunk c.args.at 64 c.args.text.now c.requires;
  each = λ k h. get_or-chunk c.args.at 64 c.args.text.now k 0 h;
}
