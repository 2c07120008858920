use Rattle.c_cache_keys.proofs.StaysLemmas.{result_stays}
use Rattle.c_cache_keys.proofs.keeping_laws.result_stays.Goals as goal

pub returns : goal.returns
returns g c = λ zone config basedirs. result_stays _ _ g.met.S.PreprocessorStore.laws
