use Rattle.c_cache_keys.proofs.StatusLaws.{statuses_are_matches}
use Rattle.c_cache_keys.proofs.snapshot_laws.statuses_are_matches.Goals as goal

pub returns : goal.returns
returns g c = λ prints zone config basedirs. statuses_are_matches _ g.met.H.HashState.length_hash
