use Rattle.c_cache_keys.proofs.Stores.{hit_on_any_store}
use Rattle.c_cache_keys.proofs.snapshot_laws.hit_on_any_store.Goals as goal

pub returns : goal.returns
returns g c = λ prints zone config basedirs. hit_on_any_store _ _
