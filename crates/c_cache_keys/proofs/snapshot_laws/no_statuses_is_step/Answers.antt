use Rattle.c_cache_keys.proofs.StatusLaws.{no_statuses_is_step}
use Rattle.c_cache_keys.proofs.snapshot_laws.no_statuses_is_step.Goals as goal

pub returns : goal.returns
returns g c = λ prints zone config basedirs. no_statuses_is_step _ _
