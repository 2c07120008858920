use Rattle.cck_hasher.proofs.EqualityLemmas.{walk_decides}
use Rattle.cck_hasher.proofs.laws.walk_equality_is_exact.Goals as goal

pub returns : goal.returns
returns c = walk_decides
