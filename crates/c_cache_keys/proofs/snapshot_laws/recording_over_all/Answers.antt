use Rattle.c_cache_keys.proofs.Parts.{recording_over_all}
use Rattle.c_cache_keys.proofs.snapshot_laws.recording_over_all.Goals as goal

pub returns : goal.returns
returns g c = λ prints zone config basedirs. recording_over_all _
