use Rattle.std.proofs.Common.{refl}
use Rattle.cck_cache.proofs.request.key_by.Goals as goal

pub returns-in-Some : goal.returns-in-Some
returns-in-Some c is_hasher is_input = record {
  input = c.args.files.now.files;
  is_input = is_input;
  asked = c.snapshot_request-asked.result;
  is_request = c.snapshot_request-asked.ensures c.args.request.now refl is_hasher;
  is_key = (rw c.in-Some.is at c.in_ok-key.ensures.key).0;
}

pub returns-in-None : goal.returns-in-None
returns-in-None c is_hasher is_input = record {
  input = c.args.files.now.files;
  is_input = is_input;
  asked = c.snapshot_request-asked.result;
  is_request = c.snapshot_request-asked.ensures c.args.request.now refl is_hasher;
  is_key = rw c.in-None.is at c.in_ok-key.ensures.key;
}
