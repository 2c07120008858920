use Rattle.c_cache_keys.proofs.Stored.{map_store_returns_stored}
use Rattle.c_cache_keys.proofs.laws.map_store_returns_stored.Goals as goal

pub returns : goal.returns
returns g c = λ zone config basedirs. map_store_returns_stored _
