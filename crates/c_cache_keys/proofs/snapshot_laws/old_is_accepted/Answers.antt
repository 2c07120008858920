use Rattle.c_cache_keys.proofs.StatusLemmas.{old_is_accepted}
use Rattle.c_cache_keys.proofs.snapshot_laws.old_is_accepted.Goals as goal

pub returns : goal.returns
returns g c = λ prints zone config basedirs. old_is_accepted _ g.met.H.HashState.length_hash
