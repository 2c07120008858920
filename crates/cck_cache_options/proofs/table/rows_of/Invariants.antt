use Rattle.std.proofs.Common.{◌≡◌, ◌++◌, length}
use Rattle.cck_cache_options.specs.Table.{entries, entries_of_lines, split_at, table_of}
use Rattle.cck_cache_options.proofs.table.rows_of.Given as goal

abbrev pub invariant-loop-line : goal.invariant-loop-line
invariant-loop-line l = entries l.rows.items ++ entries_of_lines (split_at 10 l.left) ≡ table_of l.fn.text

abbrev pub decreases-loop-line : goal.decreases-loop-line
decreases-loop-line l = length l.left
