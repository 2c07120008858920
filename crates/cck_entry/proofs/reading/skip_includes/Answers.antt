use Rattle.std.specs.Option.{option_map}
use Rattle.cck_include.specs.Include.{include_lent}
use Rattle.cck_entry.specs.Reading.{includes_at}
use Rattle.cck_entry.proofs.IncludeLoop.{ends, is_after, skips_on}
use Rattle.cck_entry.proofs.reading.skip_includes.Goals as goal

pub returns-in-Err : goal.returns-in-Err
returns-in-Err c = ends c.in-Err.error c.args.count c.loop.counter c.loop.rest.now (option_map (λ x. x.1) (includes_at c.args.count c.args.bytes.now)) c.loop-test.true c.in-Err.ensures.read c.loop.invariant

pub loop-preserved : goal.loop-preserved
loop-preserved c =
    skips_on c.args.count c.loop.counter c.loop.rest.now (include_lent c.in-Ok.read.0) c.in-Ok.read.1.now (option_map (λ x. x.1) (includes_at c.args.count c.args.bytes.now)) c.loop-test.true c.in-Ok.ensures.read c.loop.invariant

pub returns : goal.returns
returns c = is_after c.args.count c.loop.counter c.loop.rest.now (option_map (λ x. x.1) (includes_at c.args.count c.args.bytes.now)) c.loop-test.false c.loop.invariant
