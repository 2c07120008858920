use Rattle.c_cache_keys.proofs.StatusLaws.{headline_by_statuses}
use Rattle.c_cache_keys.proofs.snapshot_laws.headline_by_statuses.Goals as goal

pub returns : goal.returns
returns g c = λ prints zone config basedirs. headline_by_statuses _ _ g.met.H.HashState.length_hash g.met.S.PreprocessorStore.laws
