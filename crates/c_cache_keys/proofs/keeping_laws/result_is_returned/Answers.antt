use Rattle.c_cache_keys.proofs.StaysLemmas.{result_is_returned}
use Rattle.c_cache_keys.proofs.keeping_laws.result_is_returned.Goals as goal

pub returns : goal.returns
returns g c = λ zone config basedirs. result_is_returned _ _ g.met.S.PreprocessorStore.laws
