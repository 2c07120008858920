use Rattle.std.proofs.Common.{map, ap, ◌∙◌}
use Rattle.std.specs.Prelude.{fold}
use Rattle.std.specs.Option.{option_map}
use Rattle.std.proofs.lemmas.List.{take_all}
use Rattle.cck_cache_options.specs.Table.{better, entry}
use Rattle.cck_cache_options.proofs.StepLemmas.{folded_more}
use Rattle.cck_cache_options.proofs.runs.longest_of.Goals as goal

pub loop-row-preserved : goal.loop-row-preserved
loop-row-preserved c =
    folded_more (better c.args.argument.now) entry (option_map entry c.args.before) c.args.rows.now c.loop-row.row-index _ _ _ c.loop-row-test.true c.loop-row.invariant c.better-best.ensures

pub returns : goal.returns
returns c =
    c.loop-row.invariant ∙ ap (λ rows. fold (better c.args.argument.now) (option_map entry c.args.before) (map entry rows)) (take_all c.loop-row.row-index c.args.rows.now c.loop-row-test.false)
