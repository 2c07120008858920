use Rattle.cck_path.proofs.ComponentEquality.{component_decides}
use Rattle.cck_path.proofs.laws.component_equality_is_exact.Goals as goal

pub returns : goal.returns
returns c = component_decides
