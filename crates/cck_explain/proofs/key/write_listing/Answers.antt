use Rattle.std.proofs.Common.{◌∙◌, ◌++◌, [], ap, append_assoc}
use Rattle.cck_digest.proofs.StreamLemmas.{after_error}
use Rattle.cck_explain.specs.Key.{listed_key_line}
use Rattle.cck_explain.proofs.PutLemmas.{first_begun, flush_begun, flush_stopped, flushed}
use Rattle.cck_explain.proofs.key.write_listing.Goals as goal

pub returns-in_err-put_parts-clause-begun : goal.returns-in_err-put_parts-clause-begun
returns-in_err-put_parts-clause-begun g c =
    after_error c.from_residual.result _ (first_begun _ _ _ [] _ _ c.new-buffer.ensures.items c.in_err-put_parts.ensures.begun)

pub returns-in_err-extend_from_slice-clause-begun : goal.returns-in_err-extend_from_slice-clause-begun
returns-in_err-extend_from_slice-clause-begun g c =
    after_error c.from_residual-in_err-extend_from_slice.result _ (flush_stopped _ _ _ _ _ _ c.new-buffer.ensures.items c.in_ok-put_parts.ensures.put)

pub returns-in_err-push_key-clause-begun : goal.returns-in_err-push_key-clause-begun
returns-in_err-push_key-clause-begun g c =
    after_error c.from_residual-in_err-push_key.result _ (flush_stopped _ _ _ _ _ _ c.new-buffer.ensures.items c.in_ok-put_parts.ensures.put)

pub returns-in_err-print-clause-begun : goal.returns-in_err-print-clause-begun
returns-in_err-print-clause-begun g c =
    let all = c.deref.ensures.value ∙ c.in_ok-push_key.ensures ∙ ap (λ l. l ++ listed_key_line c.args.key.now) c.in_ok-extend_from_slice.ensures.items
    ∙ append_assoc c.put_parts.new.buffer.items c.args.cuts.now (listed_key_line c.args.key.now) in
    after_error c.from_residual-in_err-print.result _
    (flush_begun _ _ _ _ _ _ _ _ c.new-buffer.ensures.items c.in_ok-put_parts.ensures.put all c.in_err-print.ensures.begun)

pub returns-clause-listed : goal.returns-clause-listed
returns-clause-listed g c =
    let all = c.deref.ensures.value ∙ c.in_ok-push_key.ensures ∙ ap (λ l. l ++ listed_key_line c.args.key.now) c.in_ok-extend_from_slice.ensures.items
    ∙ append_assoc c.put_parts.new.buffer.items c.args.cuts.now (listed_key_line c.args.key.now) in
    flushed _ _ _ _ _ _ _ _ c.new-buffer.ensures.items c.in_ok-put_parts.ensures.put all c.in_ok-print.ensures.whole
