use Rattle.c_cache_keys.proofs.KeepingLemmas.{stays_sound_each}
use Rattle.c_cache_keys.proofs.keeping_laws.stays_sound_each.Goals as goal

pub returns : goal.returns
returns g c = λ zone config basedirs. stays_sound_each _ _ g.met.H.HashState.length_hash g.met.S.PreprocessorStore.laws
