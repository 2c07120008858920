use Rattle.std.proofs.Common.{◌≡◌, ◌∙◌, length, map, ap, arith}
use Rattle.std.proofs.lemmas.List.{length-map, take_all}
use Rattle.cck_entry.specs.Lent.{result_lent}
use Rattle.cck_c.specs.Entry.{key_and_count}
use Rattle.cck_c.proofs.entry.write_results.Goals as goal

pub returns : goal.returns
returns c =
    let all = c.args.all.now in
    let size : length (map key_and_count (map result_lent all)) ≡ length all = length-map (map result_lent all) key_and_count ∙ length-map all result_lent in
    let end = c.loop-index.auto.index-end in
    let last = c.loop-index-test.false in
    let index : length (map key_and_count (map result_lent all)) ≡ c.loop-index.index = omega arith in
    record {
      fits = omega arith;
      written = rw index (c.loop-index.invariant.written ∙ ap (λ l. map key_and_count (map result_lent l)) (take_all c.loop-index.index all last));
      rest = rw index c.loop-index.invariant.rest;
    }
