use Rattle.c_cache_keys.proofs.KeepingLemmas.{matches_are_one}
use Rattle.c_cache_keys.proofs.keeping_laws.matches_are_one.Goals as goal

pub returns : goal.returns
returns g c = λ zone config basedirs. matches_are_one _ _ g.met.H.HashState.length_hash g.met.S.PreprocessorStore.laws
