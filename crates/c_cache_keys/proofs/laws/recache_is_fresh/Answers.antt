use Rattle.c_cache_keys.proofs.Stored.{recache_is_fresh}
use Rattle.c_cache_keys.proofs.laws.recache_is_fresh.Goals as goal

pub returns : goal.returns
returns g c = λ zone config basedirs. recache_is_fresh _ _
