use Rattle.std.proofs.Common.{None, ap, sym, ◌∙◌, subst}
use Rattle.std.specs.Prelude.{flat_map, fold}
use Rattle.std.specs.Option.{option_map}
use Rattle.std.proofs.lemmas.List.{take_all}
use Rattle.cck_cache_options.specs.Runs.{IsRun, run_entries}
use Rattle.cck_cache_options.specs.Table.{better, entry}
use Rattle.cck_cache_options.proofs.RunLemmas.{longest_more, run_at}
use Rattle.cck_cache_options.proofs.runs.longest_among.Goals as goal

pub loop-run-preserved : goal.loop-run-preserved
loop-run-preserved c are =
    let runs = c.args.runs.now in
    let best = option_map entry c.loop-run.best in
    let is_run = subst IsRun (sym c.run-item.is) (run_at runs c.loop-run.run-index c.run-item.result c.loop-run-test.true are) in
    longest_more c.args.argument.now runs c.loop-run.run-index c.run-item.result best _ c.loop-run-test.true (c.loop-run.invariant are)
    (c.longest_in-best.ensures is_run ∙ ap (λ run. fold (better c.args.argument.now) best (run_entries run)) c.run-item.is)

pub returns : goal.returns
returns c are =
    c.loop-run.invariant are ∙ ap (λ runs. fold (better c.args.argument.now) None (flat_map run_entries runs)) (take_all c.loop-run.run-index c.args.runs.now c.loop-run-test.false)
