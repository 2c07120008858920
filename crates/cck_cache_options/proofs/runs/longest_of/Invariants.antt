use Rattle.std.proofs.Common.{◌≡◌, map, take}
use Rattle.std.specs.Prelude.{fold}
use Rattle.std.specs.Option.{option_map}
use Rattle.cck_cache_options.specs.Table.{better, entry}
use Rattle.cck_cache_options.proofs.runs.longest_of.Given as goal

abbrev pub invariant-loop-row : goal.invariant-loop-row
invariant-loop-row l = option_map entry l.best ≡ fold (better l.argument) (option_map entry l.before) (map entry (take l.row-index l.rows))
