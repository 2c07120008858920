use Rattle.c_cache_keys.proofs.KeepingLemmas.{step_is_first}
use Rattle.c_cache_keys.proofs.keeping_laws.step_is_first.Goals as goal

pub returns : goal.returns
returns g c = λ zone config basedirs. step_is_first _ _
