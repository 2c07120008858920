use Rattle.std.proofs.Common.{true, false, ◌≡◌, ◌∙◌, ◌++◌, ◌∷◌, [], sym, map, subst, ap, ◌+◌}
use Rattle.std.proofs.lemmas.List.{map_push}
use Rattle.cck_entry.specs.Lent.{result_lent}
use Rattle.cck_entry.specs.Reading.{Fails, comes_after}
use Rattle.cck_entry.proofs.LentLemmas.{sorted_push, whole_push}
use Rattle.cck_entry.proofs.ResultLoop.{result_goes_on, result_stops, result_fails, results_done}
use Rattle.cck_entry.proofs.reading.read_results.Goals as goal

pub returns-in-Err-clause-read : goal.returns-in-Err-clause-read
returns-in-Err-clause-read c =
    subst (Fails c.in-Err.error) c.loop.invariant.so_far (result_fails c.in-Err.error (map result_lent c.loop.results.items) c.args.count c.loop.counter c.loop.rest.now c.loop-test.true c.in-Err.ensures.read)

pub returns-clause-read : goal.returns-clause-read
returns-clause-read c = sym c.loop.invariant.so_far ∙ results_done (map result_lent c.loop.results.items) c.args.count c.loop.counter c.loop.rest.now c.loop-test.false

pub returns-then-not-comes_last-clause-read : goal.returns-then-not-comes_last-clause-read
returns-then-not-comes_last-clause-read c =
    let lent = c.in-Ok.read.0 in
    let below : comes_after (map result_lent c.loop.results.items) lent.key.now ≡ false = rw (← c.deref.ensures.value) (sym c.if-not-comes_last.ensures) in
    sym c.loop.invariant.so_far ∙ result_stops (map result_lent c.loop.results.items) c.args.count c.loop.counter c.loop.rest.now (result_lent lent) c.in-Ok.read.1.now c.loop-test.true c.in-Ok.ensures.read below

pub loop-preserved : goal.loop-preserved
loop-preserved c =
    let lent = c.in-Ok.read.0 in
    let front = map result_lent c.loop.results.items in
    let below : comes_after front lent.key.now ≡ true = rw (← c.deref.ensures.value) (sym c.if-not-comes_last.ensures) in
    let all : map result_lent c.push_reserved.new.self.items ≡ front ++ result_lent lent ∷ [] = rw c.push_reserved.ensures.items (map_push result_lent c.loop.results.items lent) in
    record {
      so_far = rw all (result_goes_on front c.args.count c.loop.counter c.loop.rest.now (result_lent lent) c.in-Ok.read.1.now c.loop-test.true c.in-Ok.ensures.read below ∙ c.loop.invariant.so_far);
      ascend = rw all (sorted_push front (result_lent lent) c.loop.invariant.ascend below);
      whole = rw c.push_reserved.ensures.items (whole_push c.loop.results.items lent c.loop.invariant.whole c.in-Ok.ensures.whole);
      len = c.push_reserved.ensures.len ∙ ap (λ n. n + 1) c.loop.invariant.len;
      room = c.push_reserved.ensures.capacity ∙ c.loop.invariant.room;
    }
