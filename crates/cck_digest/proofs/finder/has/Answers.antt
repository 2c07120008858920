use Rattle.cck_digest.proofs.FinderLemmas.{Has-found}
use Rattle.cck_digest.proofs.finder.has.Goals as goal

pub returns : goal.returns
returns c = rw c.is_some.ensures (Has-found _ _ c.find.result c.find.ensures)
