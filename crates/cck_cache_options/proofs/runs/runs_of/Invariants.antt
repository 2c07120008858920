use Rattle.std.proofs.Common.{◌≡◌, map, take}
use Rattle.cck_cache_options.specs.Runs.{AreRuns, runs_entries}
use Rattle.cck_cache_options.specs.Table.{entry}
use Rattle.cck_cache_options.proofs.runs.runs_of.Given as goal

abbrev pub invariant-loop-row : goal.invariant-loop-row
invariant-loop-row l = (runs_entries l.runs ≡ map entry (take l.row-index l.rows)) × AreRuns l.runs
