use Rattle.cck_digest.proofs.KeyErrorLemmas.{text_decides}
use Rattle.cck_digest.proofs.laws.preprocess_error_equality_is_exact.Goals as goal

pub returns : goal.returns
returns c = text_decides
