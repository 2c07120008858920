use Rattle.c_cache_keys.proofs.Runs.{runs_headline}
use Rattle.c_cache_keys.proofs.laws.runs_headline.Goals as goal

pub returns : goal.returns
returns g c = λ zone config basedirs. runs_headline _ _ g.met.H.HashState.length_hash g.met.S.PreprocessorStore.laws
