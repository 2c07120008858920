use Rattle.std.proofs.Common.{add-one, arith}
use Rattle.cck_cache_options.proofs.PathLemmas.{name_at, no_directory}
use Rattle.cck_cache_options.proofs.paths.divide.Goals as goal

pub returns-in-Some : goal.returns-in-Some
returns-in-Some c =
    rw (c.split_at.ensures.front, c.split_at.ensures.back, add-one)
    (name_at c.args.path.now c.in-Some.at c.in-Some.ensures.0.high c.in-Some.ensures.1 (λ j above lt. c.in-Some.ensures.0.after j (omega arith) lt))

pub returns-in-None : goal.returns-in-None
returns-in-None c =
    rw (c.split_at-in-None.ensures.front, c.split_at-in-None.ensures.back) (no_directory c.args.path.now (λ j from lt. c.in-None.ensures j (omega arith) lt))
