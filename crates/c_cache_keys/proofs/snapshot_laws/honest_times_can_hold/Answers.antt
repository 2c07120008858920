use Rattle.c_cache_keys.proofs.StatusLaws.{honest_times_can_hold}
use Rattle.c_cache_keys.proofs.snapshot_laws.honest_times_can_hold.Goals as goal

pub returns : goal.returns
returns c = honest_times_can_hold
