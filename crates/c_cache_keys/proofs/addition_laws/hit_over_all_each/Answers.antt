use Rattle.c_cache_keys.proofs.PartsEach.{hit_over_all_each}
use Rattle.c_cache_keys.proofs.addition_laws.hit_over_all_each.Goals as goal

pub returns : goal.returns
returns g c = λ prints zone config basedirs. hit_over_all_each _ g.met.H.HashState.length_hash
