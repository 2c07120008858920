use Rattle.c_cache_keys.proofs.StaysLemmas.{new_is_held}
use Rattle.c_cache_keys.proofs.keeping_laws.new_is_held.Goals as goal

pub returns : goal.returns
returns g c = λ zone config basedirs. new_is_held _ _ g.met.S.PreprocessorStore.laws
