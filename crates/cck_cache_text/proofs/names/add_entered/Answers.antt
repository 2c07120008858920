use Rattle.std.proofs.Common.{map, arith}
use Rattle.cck_cache_text.specs.Names.{EntersSystem}
use Rattle.cck_cache_text.proofs.IncludedLemmas.{LineAt, by_all_lines, one_more_line}
use Rattle.cck_cache_text.proofs.SetLemmas.{adds_none_below}
use Rattle.cck_cache_text.proofs.names.add_entered.Goals as goal

pub loop-line-init : goal.loop-line-init
loop-line-init c = adds_none_below (LineAt EntersSystem (map (λ line. line.now) c.args.lines.now)) c.args.systems.now

pub loop-line-preserved : goal.loop-line-preserved
loop-line-preserved c =
    one_more_line EntersSystem c.args.lines.now c.args.systems.now c.loop-line.line-index _ c.loop-line.systems c.add_after.new.names c.loop-line-test.true c.loop-line.invariant c.in_ok-add_after.ensures

pub returns : goal.returns
returns c = by_all_lines EntersSystem c.args.lines.now c.args.systems.now c.loop-line.line-index c.loop-line.systems (omega (arith, c.loop-line-test.false, c.loop-line.auto.line-index-end)) c.loop-line.invariant
