use Rattle.c_cache_keys.proofs.KeepingLemmas.{sound_is_each}
use Rattle.c_cache_keys.proofs.keeping_laws.sound_is_each.Goals as goal

pub returns : goal.returns
returns g c = λ zone config basedirs. sound_is_each _ _ g.met.H.HashState.length_hash g.met.S.PreprocessorStore.laws
