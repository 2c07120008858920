use Rattle.c_cache_keys.proofs.AdditionLemmas.{addition_on_any_store}
use Rattle.c_cache_keys.proofs.addition_laws.addition_on_any_store.Goals as goal

pub returns : goal.returns
returns g c = λ prints zone config basedirs. addition_on_any_store _ _
