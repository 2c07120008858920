use Rattle.std.proofs.Common.{◌≡◌, ◌++◌, map, drop}
use Rattle.std.specs.BTreeMap.{IsOrdered}
use Rattle.std.specs.String.{string_cmp}
use Rattle.cck_entry.specs.Lent.{result_lent}
use Rattle.cck_entry.specs.Results.{result_in}
use Rattle.cck_entry.proofs.lent.copy_results.Given as goal

abbrev pub invariant-loop-lent : goal.invariant-loop-lent
invariant-loop-lent l = record {
  copied : map result_in l.copies.entries ++ map result_lent (drop l.lent-index l.results) ≡ map result_lent l.results;
  copies_ordered : IsOrdered string_cmp l.copies;
}
