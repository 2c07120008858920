use Rattle.c_cache_keys.proofs.Stored.{fresh_is_held}
use Rattle.c_cache_keys.proofs.laws.fresh_is_held.Goals as goal

pub returns : goal.returns
returns g c = λ zone config basedirs. fresh_is_held _ _ g.met.S.PreprocessorStore.laws
