use Rattle.c_cache_keys.proofs.KeepingLemmas.{run_is_keeping}
use Rattle.c_cache_keys.proofs.keeping_laws.run_is_keeping.Goals as goal

pub returns : goal.returns
returns g c = λ zone config basedirs. run_is_keeping _ _
