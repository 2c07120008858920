use Rattle.cck_include.proofs.LawLemmas.{recorded_has_length}
use Rattle.cck_include.proofs.laws.recorded_has_length.Goals as goal

pub returns : goal.returns
returns c = recorded_has_length
