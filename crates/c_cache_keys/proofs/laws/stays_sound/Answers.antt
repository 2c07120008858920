use Rattle.c_cache_keys.proofs.Runs.{stays_sound}
use Rattle.c_cache_keys.proofs.laws.stays_sound.Goals as goal

pub returns : goal.returns
returns g c = λ zone config basedirs. stays_sound _ _ g.met.H.HashState.length_hash g.met.S.PreprocessorStore.laws
