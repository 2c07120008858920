use Rattle.std.proofs.Common.{sym, add-one, arith}
use Rattle.cck_cache_text.proofs.NameLemmas.{last_slash, no_slash}
use Rattle.cck_cache_text.proofs.names.directory_of.Goals as goal

pub returns-in-Some : goal.returns-in-Some
returns-in-Some c =
    rw add-one (last_slash c.args.name.now c.in-Some.at c.in-Some.ensures.0.high c.in-Some.ensures.1 (λ j above lt. c.in-Some.ensures.0.after j (omega arith) lt))

pub returns-in-None : goal.returns-in-None
returns-in-None c = sym (no_slash c.args.name.now (λ k lt. c.in-None.ensures k (omega arith) lt))
