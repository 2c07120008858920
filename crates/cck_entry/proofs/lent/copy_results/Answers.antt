use Rattle.std.proofs.Common.{◌≡◌, ◌∙◌, get_or, map, ap}
use Rattle.std.specs.String.{string_bytes}
use Rattle.cck_include.specs.Include.{includes_in}
use Rattle.cck_entry.specs.Lent.{includes_begun}
use Rattle.cck_entry.specs.Results.{result_in}
use Rattle.cck_entry.specs.declared.result_ref.ResultRef.{ResultRef}
use Rattle.cck_entry.proofs.LentLemmas.{after_own, own_push}
use Rattle.cck_entry.proofs.lent.copy_results.Goals as goal

pub put_last-requires : goal.put_last-requires
put_last-requires c =
    let lent = c.lent-item.result in
    let here : lent ≡ get_or c.args.results.now c.loop-lent.lent-index lent = cc in
    after_own c.args.results.now c.loop-lent.lent-index lent (map result_in c.loop-lent.copies.entries) (string_bytes c.in_ok-key.key)
    c.loop-lent-test.true c.requires c.loop-lent.invariant.copied (c.in_ok-key.ensures.ok ∙ ap (λ (r : ResultRef). r.key.now) here)

pub loop-lent-preserved : goal.loop-lent-preserved
loop-lent-preserved c =
    let lent = c.lent-item.result in
    let here : lent ≡ get_or c.args.results.now c.loop-lent.lent-index lent = cc in
    record {
      copied = own_push c.args.results.now c.loop-lent.lent-index lent (map result_in c.loop-lent.copies.entries) (map result_in c.put_last.new.results.entries)
          (string_bytes c.in_ok-key.key) (includes_in c.in_ok-copy_includes.field-0.items)
          c.loop-lent-test.true c.loop-lent.invariant.copied c.in_ok-put_last.ensures.ok (c.in_ok-key.ensures.ok ∙ ap (λ (r : ResultRef). r.key.now) here)
          (c.in_ok-copy_includes.ensures.value ∙ ap (λ (r : ResultRef). includes_begun r.count r.includes.now) here);
      copies_ordered = c.in_ok-put_last.ensures.ordered;
    }
