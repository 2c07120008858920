use Rattle.c_cache_keys.proofs.AdditionLemmas.{returned_is_earlier}
use Rattle.c_cache_keys.proofs.addition_laws.returned_is_earlier.Goals as goal

pub returns : goal.returns
returns g c = λ prints zone config basedirs. returned_is_earlier _ _ g.met.S.PreprocessorStore.laws
