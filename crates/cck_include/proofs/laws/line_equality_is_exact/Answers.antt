use Rattle.cck_include.proofs.MarkEqualityLemmas.{line_decides}
use Rattle.cck_include.proofs.laws.line_equality_is_exact.Goals as goal

pub returns : goal.returns
returns c = line_decides
