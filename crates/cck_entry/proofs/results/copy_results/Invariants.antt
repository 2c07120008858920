use Rattle.std.proofs.Common.{◌≡◌, ◌++◌, map}
use Rattle.std.specs.BTreeMap.{IsOrdered}
use Rattle.std.specs.String.{string_cmp}
use Rattle.cck_entry.specs.Results.{result_in}
use Rattle.cck_entry.proofs.results.copy_results.Given as goal

abbrev pub invariant-loop-key : goal.invariant-loop-key
invariant-loop-key l = record {
  copied : map result_in l.copies.entries ++ map result_in l.key-iterator ≡ map result_in l.results.entries;
  ordered : IsOrdered string_cmp l.results;
  copies_ordered : IsOrdered string_cmp l.copies;
}
