use Rattle.c_cache_keys.proofs.StatusLaws.{step_is_step}
use Rattle.c_cache_keys.proofs.snapshot_laws.step_is_step.Goals as goal

pub returns : goal.returns
returns g c = λ prints zone config basedirs. step_is_step _ _ g.met.H.HashState.length_hash g.met.S.PreprocessorStore.laws
