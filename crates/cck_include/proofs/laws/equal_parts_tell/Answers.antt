use Rattle.cck_include.proofs.PartLemmas.{day_is_determined, second_is_determined}
use Rattle.cck_include.proofs.laws.equal_parts_tell.Goals as goal

pub returns-clause-days : goal.returns-clause-days
returns-clause-days c = day_is_determined

pub returns-clause-seconds : goal.returns-clause-seconds
returns-clause-seconds c = second_is_determined
