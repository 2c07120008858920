use Rattle.std.proofs.lemmas.List.{take-replicate}
use Rattle.cck_cache_rules.proofs.signature.feed_times.Goals as goal

pub returns : goal.returns
returns g c fed held = rw (take-replicate c.args.count 64 c.args.byte c.requires) at (c.feed.ensures fed held)
