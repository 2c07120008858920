use Rattle.cck_include.proofs.PartLemmas.{one_second_is}
use Rattle.cck_include.proofs.laws.one_second.Goals as goal

pub returns : goal.returns
returns c = one_second_is
