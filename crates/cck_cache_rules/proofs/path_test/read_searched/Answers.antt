use Rattle.cck_cache_rules.proofs.TestLemmas.{searched_read, too_short}
use Rattle.cck_cache_rules.proofs.path_test.read_searched.Goals as goal

pub returns-in_err-after : goal.returns-in_err-after
returns-in_err-after c = rw c.from_residual.ensures (λ x same. c.in_err-after.ensures _ same)

pub returns-in_err-place : goal.returns-in_err-place
returns-in_err-place c = rw c.from_residual-in_err-place.ensures (too_short c.args.bytes.now c.in_ok-after.field-0.now c.in_ok-after.ensures.0 c.in_err-place.ensures)

pub returns : goal.returns
returns c = searched_read c.args.bytes.now c.in_ok-after.field-0.now c.in_ok-place.path.now c.in_ok-place.place c.in_ok-after.ensures.0 c.in_ok-place.ensures
