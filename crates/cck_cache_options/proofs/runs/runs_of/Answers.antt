use Rattle.std.proofs.Common.{map, ap, ◌∙◌}
use Rattle.std.proofs.lemmas.List.{take_all}
use Rattle.cck_cache_options.specs.Table.{entry}
use Rattle.cck_cache_options.proofs.RunLemmas.{rows_more}
use Rattle.cck_cache_options.proofs.runs.runs_of.Goals as goal

pub loop-row-preserved : goal.loop-row-preserved
loop-row-preserved c = (
  rows_more c.args.rows.now c.loop-row.row-index _ _ _ c.loop-row-test.true c.loop-row.invariant.0 c.in_ok-add_row.ensures.options,
  c.in_ok-add_row.ensures.runs c.loop-row.invariant.1,
)

pub returns : goal.returns
returns c = (
  c.loop-row.invariant.0 ∙ ap (map entry) (take_all c.loop-row.row-index c.args.rows.now c.loop-row-test.false),
  c.loop-row.invariant.1,
)
