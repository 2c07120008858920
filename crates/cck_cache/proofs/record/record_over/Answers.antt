use Rattle.std.proofs.lemmas.Result.{IfOk-weaker}
use Rattle.cck_cache_rules.specs.PathTest.{tests_of}
use Rattle.cck_path.specs.Bytes.{lists_of}
use Rattle.cck_cache.specs.Input.{IsCalm}
use Rattle.cck_cache.specs.Record.{IsKept, IsOutcomeOver}
use Rattle.cck_cache.specs.declared.record.Outcome.{Outcome}
use Rattle.cck_cache.proofs.RecordLemmas.{added_outcome, refused_entry}
use Rattle.cck_cache.proofs.record.record_over.Goals as goal

pub returns-in-Refused : goal.returns-in-Refused
returns-in-Refused g c =
    refused_entry c.args.environment.now c.args.request.now c.args.compilation.now c.args.text.now c.args.gathered c.base_words.result c.in_ok-bases.bases c.deref.result.now c.in_ok-refusal.field-0 c.in-Refused.refusal
    c.base_words.ensures c.in_ok-bases.ensures c.deref.ensures.value c.in-Refused.is c.in_ok-refusal.ensures

pub returns-in-Added : goal.returns-in-Added
returns-in-Added g c =
    IfOk-weaker c.record_added.result (IsKept c.args.request.now (lists_of c.deref-in-Added.result.now) c.in-Added.added (tests_of c.args.gathered.tests.items))
    (λ (outcome : Outcome). IsCalm c.args.gathered.files → IsOutcomeOver c.args.environment.now c.args.request.now c.args.compilation.now c.args.text.now c.args.gathered outcome)
    (λ outcome.
    added_outcome c.args.environment.now c.args.request.now c.args.compilation.now c.args.text.now c.args.gathered c.base_words.result c.in_ok-bases.bases c.deref.result.now c.deref-in-Added.result.now c.in_ok-refusal.field-0 c.in-Added.added outcome
    c.base_words.ensures c.in_ok-bases.ensures c.deref.ensures.value c.deref-in-Added.ensures.value c.in-Added.is c.in_ok-refusal.ensures c.if-gathered.false)
    c.record_added.ensures
