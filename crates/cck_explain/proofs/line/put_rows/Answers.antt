use Rattle.std.proofs.Common.{◌+◌, ◌∙◌, [], sym, ap, arith, length, append-nil}
use Rattle.cck_digest.proofs.StreamLemmas.{after_error}
use Rattle.cck_explain.specs.Key.{part}
use Rattle.cck_explain.specs.Listing.{part_lines, rows}
use Rattle.cck_explain.proofs.BufferLemmas.{puts_nothing}
use Rattle.cck_explain.proofs.PutLemmas.{of_last_row, of_row, so_far_begun, so_far_last, so_far_more}
use Rattle.cck_explain.proofs.line.put_rows.Goals as goal

pub loop-rest-init : goal.loop-rest-init
loop-rest-init g c = record {
  put = record { done = []; put = puts_nothing _ _; all = ap (λ b. part_lines c.args.offset (rows (part c.args.part.now.name b))) c.bytes-rest.ensures };
  place = ap (λ b. c.args.offset + length b) c.bytes-rest.ensures;
}

pub loop-rest-preserved : goal.loop-rest-preserved
loop-rest-preserved g c =
    let is = of_row c.loop-rest.at c.args.part.now.name c.name.result.now c.loop-rest.rest.now c.split_at.result.0.now c.split_at.result.1.now
    c.loop-rest-test.true c.name.ensures c.split_at.ensures.front c.split_at.ensures.back in
    record {
      put = so_far_more _ _ _ _ _ _ _ _ _ _ c.loop-rest.invariant.put is c.in_ok-put_line.ensures.put;
      place = omega (arith, c.loop-rest.invariant.place, c.split_at.ensures.back_len);
    }

pub returns-in_err-put_line-clause-begun : goal.returns-in_err-put_line-clause-begun
returns-in_err-put_line-clause-begun g c =
    let is = of_row c.loop-rest.at c.args.part.now.name c.name.result.now c.loop-rest.rest.now c.split_at.result.0.now c.split_at.result.1.now
    c.loop-rest-test.true c.name.ensures c.split_at.ensures.front c.split_at.ensures.back in
    after_error c.from_residual.result _ (so_far_begun _ _ _ _ _ [] _ _ _ _ c.loop-rest.invariant.put is c.in_err-put_line.ensures.begun)

pub returns-clause-put : goal.returns-clause-put
returns-clause-put g c =
    let is = of_last_row c.loop-rest.at c.args.part.now.name c.name-2.result.now c.loop-rest.rest.now c.loop-rest-test.false c.name-2.ensures in
    so_far_last _ _ _ _ _ _ _ _ _ c.loop-rest.invariant.put is c.in_ok-put_line-2.ensures.put

pub returns-in_err-put_line-2-clause-begun : goal.returns-in_err-put_line-2-clause-begun
returns-in_err-put_line-2-clause-begun g c =
    let is = of_last_row c.loop-rest.at c.args.part.now.name c.name-2.result.now c.loop-rest.rest.now c.loop-rest-test.false c.name-2.ensures in
    after_error c.from_residual-in_err-put_line-2.result _
    (so_far_begun _ _ _ _ _ [] _ _ _ [] c.loop-rest.invariant.put (is ∙ sym (append-nil _)) c.in_err-put_line-2.ensures.begun)
