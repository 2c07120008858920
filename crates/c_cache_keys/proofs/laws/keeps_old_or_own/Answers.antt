use Rattle.c_cache_keys.proofs.Runs.{keeps_old_or_own}
use Rattle.c_cache_keys.proofs.laws.keeps_old_or_own.Goals as goal

pub returns : goal.returns
returns g c = λ zone config basedirs. keeps_old_or_own _ _ g.met.H.HashState.length_hash g.met.S.PreprocessorStore.laws
