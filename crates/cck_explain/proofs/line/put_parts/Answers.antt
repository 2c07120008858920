use Rattle.std.proofs.Common.{◌≡◌, ◌+◌, [], refl, length, rules}
use Rattle.cck_digest.proofs.StreamLemmas.{after_error}
use Rattle.cck_explain.proofs.BufferLemmas.{puts_nothing}
use Rattle.cck_explain.proofs.ListingLemmas.{lines_from}
use Rattle.cck_explain.proofs.PutLemmas.{so_far_begun, so_far_more, so_far_stopped}
use Rattle.cck_explain.proofs.line.put_parts.Goals as goal

pub loop-part-init : goal.loop-part-init
loop-part-init g c = record { done = []; put = puts_nothing _ _; all = refl }

pub returns-in_err-end-clause-begun : goal.returns-in_err-end-clause-begun
returns-in_err-end-clause-begun g c = after_error c.from_residual.result _ (so_far_stopped _ _ _ _ _ _ c.loop-part.invariant)

pub returns-in_err-put_part-clause-begun : goal.returns-in_err-put_part-clause-begun
returns-in_err-put_part-clause-begun g c =
    let end : c.in_ok-end.end ≡ c.loop-part.offset + length c.part-item.result.bytes = search rules in
    let is = lines_from c.args.is_full c.loop-part.offset c.in_ok-end.end c.args.parts.now c.loop-part.part-index c.part-item.result c.loop-part-test.true c.part-item.is end in
    after_error c.from_residual-in_err-put_part.result _ (so_far_begun _ _ _ _ _ [] _ _ _ _ c.loop-part.invariant is c.in_err-put_part.ensures.begun)

pub loop-part-preserved : goal.loop-part-preserved
loop-part-preserved g c =
    let end : c.in_ok-end.end ≡ c.loop-part.offset + length c.part-item.result.bytes = search rules in
    let is = lines_from c.args.is_full c.loop-part.offset c.in_ok-end.end c.args.parts.now c.loop-part.part-index c.part-item.result c.loop-part-test.true c.part-item.is end in
    so_far_more _ _ _ _ _ _ _ _ _ _ c.loop-part.invariant is c.in_ok-put_part.ensures.put
