use Rattle.c_cache_keys.proofs.AdditionLemmas.{held_is_keeping}
use Rattle.c_cache_keys.proofs.addition_laws.held_is_keeping.Goals as goal

pub returns : goal.returns
returns g c = λ prints zone config basedirs. held_is_keeping _ _
