use Rattle.c_cache_keys.proofs.Runs.{nothing_damaged}
use Rattle.c_cache_keys.proofs.laws.nothing_damaged.Goals as goal

pub returns : goal.returns
returns g c = λ zone config basedirs. nothing_damaged _ _ g.met.H.HashState.length_hash g.met.S.PreprocessorStore.laws
