use Rattle.c_cache_keys.proofs.Stores.{recording_on_any_store}
use Rattle.c_cache_keys.proofs.snapshot_laws.recording_on_any_store.Goals as goal

pub returns : goal.returns
returns g c = λ prints zone config basedirs. recording_on_any_store _ _
