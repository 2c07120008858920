use Rattle.std.proofs.Common.{◌≡◌, None, take}
use Rattle.std.specs.Prelude.{flat_map, fold}
use Rattle.std.specs.List.{AllByRecursion}
use Rattle.std.specs.Option.{option_map}
use Rattle.cck_cache_options.specs.Runs.{IsRun, run_entries}
use Rattle.cck_cache_options.specs.Table.{better, entry}
use Rattle.cck_cache_options.proofs.runs.longest_among.Given as goal

abbrev pub invariant-loop-run : goal.invariant-loop-run
invariant-loop-run l = AllByRecursion IsRun l.runs → option_map entry l.best ≡ fold (better l.argument) None (flat_map run_entries (take l.run-index l.runs))
