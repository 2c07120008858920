use Rattle.std.proofs.Common.{◌≡◌, map, take, drop}
use Rattle.cck_entry.specs.Lent.{result_lent}
use Rattle.cck_c.specs.Entry.{key_and_count, passed_result}
use Rattle.cck_c.proofs.entry.write_results.Given as goal

-- the results so far are written, and the rest of the array is as before
abbrev pub invariant-loop-index : goal.invariant-loop-index
invariant-loop-index l = record {
  written : map passed_result (take l.index l.results) ≡ map key_and_count (map result_lent (take l.index l.all));
  rest : drop l.index l.results ≡ drop l.index l.initial.results;
}
