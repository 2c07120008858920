use Rattle.c_cache_keys.proofs.Stored.{held_key_is_returned}
use Rattle.c_cache_keys.proofs.laws.held_key_is_returned.Goals as goal

pub returns : goal.returns
returns g c = λ zone config basedirs. held_key_is_returned _ _ g.met.S.PreprocessorStore.laws
