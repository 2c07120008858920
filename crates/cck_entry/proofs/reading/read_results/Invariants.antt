use Rattle.std.proofs.Common.{◌≡◌, ◌-◌, map, [], true}
use Rattle.std.specs.FinMap.{is_sorted}
use Rattle.std.specs.List.{AllByRecursion}
use Rattle.std.specs.Prelude.{vec_capacity, vec_len}
use Rattle.cck_path.specs.TextOrder.{text_cmp}
use Rattle.cck_entry.specs.Lent.{IsWhole, result_lent}
use Rattle.cck_entry.specs.Reading.{results_from}
use Rattle.cck_entry.proofs.reading.read_results.Given as goal

abbrev pub invariant-loop : goal.invariant-loop
invariant-loop l = record {
  so_far : results_from (map result_lent l.results.items) (l.count - l.counter) l.rest ≡ results_from [] l.count l.bytes;
  ascend : is_sorted text_cmp (map result_lent l.results.items) ≡ true;
  whole : AllByRecursion IsWhole l.results.items;
  len : vec_len l.results ≡ l.counter;
  room : vec_capacity l.results ≡ l.count;
}
