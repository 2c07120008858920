use Rattle.c_cache_keys.proofs.KeepingLemmas.{hit_is_plain_each}
use Rattle.c_cache_keys.proofs.keeping_laws.hit_is_plain_each.Goals as goal

pub returns : goal.returns
returns g c = λ zone config basedirs. hit_is_plain_each _ _ g.met.H.HashState.length_hash g.met.S.PreprocessorStore.laws
