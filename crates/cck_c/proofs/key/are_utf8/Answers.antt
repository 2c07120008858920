use Rattle.std.proofs.Common.{below_more}
use Rattle.cck_c.proofs.StringLemmas.{utf8_at}
use Rattle.cck_c.proofs.key.are_utf8.Goals as goal

pub loop-one-preserved : goal.loop-one-preserved
loop-one-preserved c = below_more _ _ c.loop-one.invariant (utf8_at c.args.all.now c.loop-one.one-index _ c.loop-one-test.true c.in-Ok.ensures.cases.1)
