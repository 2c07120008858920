use Rattle.cck_cache_rules.proofs.ObjectNameLemmas.{material_tells_object}
use Rattle.cck_cache_rules.proofs.laws.material_tells_object.Goals as goal

pub returns : goal.returns
returns c = material_tells_object
