use Rattle.cck_cache_rules.proofs.TestLemmas.{real_read}
use Rattle.cck_cache_rules.proofs.path_test.read_real.Goals as goal

pub returns-in_err-after : goal.returns-in_err-after
returns-in_err-after c = rw c.from_residual.ensures (λ x same. c.in_err-after.ensures _ same)

pub returns : goal.returns
returns c = real_read c.args.bytes.now c.in_ok-after.field-0.now _ c.in_ok-after.ensures.0 c.read_frame.ensures
