use Rattle.std.proofs.Common.{arith, inr, refl}
use Rattle.std.proofs.lemmas.Str.{IsCharBoundary-start}
use Rattle.cck_cache_store.proofs.http.share_of.Goals as goal

pub returns-in-None : goal.returns-in-None
returns-in-None c = inr (refl, c.in-None.ensures.cases (omega arith) (IsCharBoundary-start c.args.name.now c.utf8.name))
