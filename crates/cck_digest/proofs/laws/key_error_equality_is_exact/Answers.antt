use Rattle.cck_digest.proofs.KeyErrorLemmas.{key_decides}
use Rattle.cck_digest.proofs.laws.key_error_equality_is_exact.Goals as goal

pub returns : goal.returns
returns c = key_decides
