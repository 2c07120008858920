use Rattle.c_cache_keys.proofs.Stored.{stored_key_is_returned}
use Rattle.c_cache_keys.proofs.laws.stored_key_is_returned.Goals as goal

pub returns : goal.returns
returns g c = λ zone config basedirs. stored_key_is_returned _ _
