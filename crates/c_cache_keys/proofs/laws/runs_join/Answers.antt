use Rattle.c_cache_keys.proofs.Runs.{runs_join}
use Rattle.c_cache_keys.proofs.laws.runs_join.Goals as goal

pub returns : goal.returns
returns g c = λ zone config basedirs. runs_join _ _
