use Rattle.c_cache_keys.proofs.StaysLemmas.{stored_is_hit_each}
use Rattle.c_cache_keys.proofs.keeping_laws.stored_is_hit_each.Goals as goal

pub returns : goal.returns
returns g c = λ zone config basedirs. stored_is_hit_each _ _ g.met.S.PreprocessorStore.laws
