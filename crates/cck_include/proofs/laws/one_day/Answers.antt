use Rattle.cck_include.proofs.PartLemmas.{one_day_is}
use Rattle.cck_include.proofs.laws.one_day.Goals as goal

pub returns : goal.returns
returns c = one_day_is
