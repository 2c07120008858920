use Rattle.c_cache_keys.proofs.StatusLaws.{headline_by_statuses_on_earlier}
use Rattle.c_cache_keys.proofs.addition_laws.headline_by_statuses_on_earlier.Goals as goal

pub returns : goal.returns
returns g c = λ prints zone config basedirs. headline_by_statuses_on_earlier _ _ g.met.H.HashState.length_hash g.met.S.PreprocessorStore.laws
