use Rattle.cck_include.proofs.MarkEqualityLemmas.{mark_decides}
use Rattle.cck_include.proofs.laws.mark_equality_is_exact.Goals as goal

pub returns : goal.returns
returns c = mark_decides
