use Rattle.c_cache_keys.proofs.Stored.{stored_is_hit}
use Rattle.c_cache_keys.proofs.laws.stored_is_hit.Goals as goal

pub returns : goal.returns
returns g c = λ zone config basedirs. stored_is_hit _ _ g.met.S.PreprocessorStore.laws
