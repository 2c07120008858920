use Rattle.c_cache_keys.proofs.KeepingLemmas.{headline_keeping}
use Rattle.c_cache_keys.proofs.keeping_laws.headline_keeping.Goals as goal

pub returns : goal.returns
returns g c = λ zone config basedirs. headline_keeping _ _ g.met.H.HashState.length_hash g.met.S.PreprocessorStore.laws
