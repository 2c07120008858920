use Rattle.c_cache_keys.proofs.Witness.{premises_can_hold}
use Rattle.c_cache_keys.proofs.laws.premises_can_hold.Goals as goal

pub returns : goal.returns
returns c = premises_can_hold
