use Rattle.c_cache_keys.proofs.AdditionLemmas.{hit_is_keeping}
use Rattle.c_cache_keys.proofs.addition_laws.hit_is_keeping.Goals as goal

pub returns : goal.returns
returns g c = λ prints zone config basedirs. hit_is_keeping _ _
