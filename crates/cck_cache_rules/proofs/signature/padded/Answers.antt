use Rattle.std.proofs.lemmas.List.{take_all}
use Rattle.cck_cache_rules.proofs.signature.padded.Goals as goal

pub returns : goal.returns
returns g c = rw (take_all c.loop-digit.digit-index c.args.key.now c.loop-digit-test.false) at (c.feed_times.ensures _ c.loop-digit.invariant)
