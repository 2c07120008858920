use Rattle.cck_digest.proofs.EqualityLemmas.{file_decides}
use Rattle.cck_digest.proofs.laws.file_error_equality_is_exact.Goals as goal

pub returns : goal.returns
returns c = file_decides
