use Rattle.c_cache_keys.proofs.KeepingLemmas.{headline_on_earlier}
use Rattle.c_cache_keys.proofs.keeping_laws.headline_on_earlier.Goals as goal

pub returns : goal.returns
returns g c = λ zone config basedirs. headline_on_earlier _ _ g.met.H.HashState.length_hash g.met.S.PreprocessorStore.laws
