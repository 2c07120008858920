use Rattle.cck_digest.proofs.HasLemmas.{has_iff}
use Rattle.cck_digest.proofs.laws.has_is_tested.Goals as goal

pub returns : goal.returns
returns c = has_iff
