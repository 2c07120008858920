use Rattle.cck_explain_listing.proofs.FaultLemmas.{include_read, include_wrong, includes_read}
use Rattle.cck_explain_listing.proofs.fault.skip_includes.Goals as goal

pub returns-in-Err : goal.returns-in-Err
returns-in-Err c = include_wrong c.args.count c.loop.counter c.loop.rest.now _ c.loop.invariant _ c.loop-test.true c.in-Err.ensures

pub loop-preserved : goal.loop-preserved
loop-preserved c = include_read c.args.count c.loop.counter c.loop.rest.now _ c.loop.invariant _ c.loop-test.true c.in-Ok.ensures

pub returns : goal.returns
returns c = includes_read c.args.count c.loop.counter c.loop.rest.now _ c.loop.invariant c.loop-test.false
