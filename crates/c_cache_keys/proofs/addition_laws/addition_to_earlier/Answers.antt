use Rattle.c_cache_keys.proofs.AdditionLemmas.{addition_to_earlier}
use Rattle.c_cache_keys.proofs.addition_laws.addition_to_earlier.Goals as goal

pub returns : goal.returns
returns g c = λ prints zone config basedirs. addition_to_earlier _ _
