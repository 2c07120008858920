use Rattle.c_cache_keys.proofs.Stored.{run_returns_stored}
use Rattle.c_cache_keys.proofs.laws.run_returns_stored.Goals as goal

pub returns : goal.returns
returns g c = λ zone config basedirs. run_returns_stored _ _
