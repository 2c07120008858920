use Rattle.cck_include.proofs.PresenceLemmas.{part_there, there_part}
use Rattle.cck_include.proofs.laws.parts_exist.Goals as goal

pub returns : goal.returns
returns c = λ date timestamp modified moment zone variables. (there_part date timestamp modified moment zone variables, part_there date timestamp modified moment zone variables)
