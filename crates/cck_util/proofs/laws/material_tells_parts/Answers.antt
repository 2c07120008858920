use Rattle.cck_util.proofs.MaterialLemmas.{material_tells_parts}
use Rattle.cck_util.proofs.laws.material_tells_parts.Goals as goal

pub returns : goal.returns
returns c = material_tells_parts
