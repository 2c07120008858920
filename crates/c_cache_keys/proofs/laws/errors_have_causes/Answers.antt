use Rattle.c_cache_keys.proofs.Causes.{errors_have_causes}
use Rattle.c_cache_keys.proofs.laws.errors_have_causes.Goals as goal

pub returns : goal.returns
returns g c = λ zone config basedirs. errors_have_causes _ _ g.met.S.PreprocessorStore.laws
