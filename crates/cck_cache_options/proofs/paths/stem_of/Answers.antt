use Rattle.std.proofs.Common.{arith}
use Rattle.cck_cache_options.proofs.PathLemmas.{no_stem, stem_at}
use Rattle.cck_cache_options.proofs.paths.stem_of.Goals as goal

pub returns-in-Some : goal.returns-in-Some
returns-in-Some c = stem_at c.args.name.now c.in-Some.at c.in-Some.ensures.0.high c.in-Some.ensures.1 (λ j above lt. c.in-Some.ensures.0.after j (omega arith) lt)

pub returns-in-None : goal.returns-in-None
returns-in-None c = no_stem c.args.name.now (λ j from lt. c.in-None.ensures j (omega arith) lt)
