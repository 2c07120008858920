use Rattle.c_cache_keys.proofs.Runs.{headline}
use Rattle.c_cache_keys.proofs.snapshot_laws.headline.Goals as goal

pub returns : goal.returns
returns g c = λ prints zone config basedirs. headline _ _ g.met.H.HashState.length_hash g.met.S.PreprocessorStore.laws
