use Rattle.cck_digest.proofs.EqualityLemmas.{util_decides}
use Rattle.cck_digest.proofs.laws.util_error_equality_is_exact.Goals as goal

pub returns : goal.returns
returns c = util_decides
