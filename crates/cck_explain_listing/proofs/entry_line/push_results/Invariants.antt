use Rattle.std.proofs.Common.{◌≡◌, ◌++◌, map}
use Rattle.std.specs.List.{flat_map}
use Rattle.cck_entry.specs.Results.{result_in}
use Rattle.cck_explain_listing.specs.EntryListing.{result_lines}
use Rattle.cck_explain_listing.proofs.entry_line.push_results.Given as goal

-- with the lines of the results that are left, the lines are those of all results
abbrev pub invariant-loop-key : goal.invariant-loop-key
invariant-loop-key l =
    l.lines.items ++ flat_map result_lines (map result_in l.key-iterator) ≡ l.fn.lines.items ++ flat_map result_lines (map result_in l.results.entries)
