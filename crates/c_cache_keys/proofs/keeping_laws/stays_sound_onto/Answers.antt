use Rattle.c_cache_keys.proofs.KeepingLemmas.{stays_sound_onto}
use Rattle.c_cache_keys.proofs.keeping_laws.stays_sound_onto.Goals as goal

pub returns : goal.returns
returns g c = λ zone config basedirs. stays_sound_onto _ _ g.met.H.HashState.length_hash g.met.S.PreprocessorStore.laws
