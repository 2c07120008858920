use Rattle.std.proofs.Common.{inl, Option, Some, None, subst}
use Rattle.std.proofs.lemmas.Result.{IfOk-weaker}
use Rattle.cck_cache.specs.Input.{IsCalm}
use Rattle.cck_cache.specs.Record.{IsJudgedByReading, IsOutcome, IsOutcomeOver}
use Rattle.cck_cache.specs.declared.record.Outcome.{Outcome}
use Rattle.cck_cache_rules.specs.declared.refusal.Refusal.{Refusal}
use Rattle.cck_cache_options.specs.declared.task.Made.{Made}
use Rattle.cck_cache.proofs.RecordLemmas.{outcome_all}
use Rattle.cck_cache.proofs.record.record.Goals as goal

pub returns-in-Some : goal.returns-in-Some
returns-in-Some g c =
    inl (subst (λ (o : Option Made). IsJudgedByReading c.args.request.now c.args.text.now o (Some c.in-Some.refusal)) c.as_ref.ensures.value (rw (c.in-Some.is, c.in_ok-marked.ensures) at c.in_ok-refusal.ensures))

pub returns : goal.returns
returns g c =
    let environment = c.args.environment.now in
    let request = c.args.request.now in
    let compilation = c.args.compilation.now in
    let text = c.args.text.now in
    let gathered = c.in-Files.gathered in
    let seen = rw (c.in-Files.is, c.in_ok-marked.ensures) at c.in_ok-refusal-2.ensures in
    let judged = subst (λ (o : Option Made). IsJudgedByReading request text o c.in_ok-refusal.field-0) c.as_ref.ensures.value (rw c.in_ok-marked.ensures at c.in_ok-refusal.ensures) in
    let alone : IsJudgedByReading request text compilation.made None = subst (λ (r : Option Refusal). IsJudgedByReading request text compilation.made r) c.in_default.is judged in
    IfOk-weaker c.record_over.result (λ (outcome : Outcome). IsCalm gathered.files → IsOutcomeOver environment request compilation text gathered outcome) (IsOutcome environment request compilation text)
    (λ outcome is. outcome_all environment request compilation seen.0 text gathered outcome alone seen.1.0 (is seen.1.1)) c.record_over.ensures
