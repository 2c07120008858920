use Rattle.cck_cache_store.proofs.VerifyLemmas.{object_found, object_missing}
use Rattle.cck_cache_store.proofs.verify.is_sound_object.Goals as goal

pub returns-in_default : goal.returns-in_default
returns-in_default c = object_missing c.args.name.now c.args.bytes.now (rw c.in_default.is at c.in_ok-object_in.ensures)

pub returns : goal.returns
returns c = object_found c.args.name.now c.args.bytes.now _ (rw c.in-Some.is at c.in_ok-object_in.ensures)
