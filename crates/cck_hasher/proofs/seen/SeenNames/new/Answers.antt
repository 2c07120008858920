use Rattle.cck_hasher.proofs.SeenLemmas.{no_names}
use Rattle.cck_hasher.proofs.seen.SeenNames.new.Goals as goal

pub returns : goal.returns
returns c = λ name is_system has. no_names 2048 (name, is_system) has
