use Rattle.cck_digest.proofs.EntryErrorLemmas.{error_decides}
use Rattle.cck_digest.proofs.laws.error_equality_is_exact.Goals as goal

pub returns : goal.returns
returns c = error_decides
