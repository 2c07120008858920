use Rattle.std.proofs.Common.{◌∙◌, ◌+ℤ◌, ℤ, refl, ap, subst, sym, rules, FitsSigned, w64}
use Rattle.std.proofs.lemmas.Bool.{false≢true}
use Rattle.std.proofs.lemmas.Int.{to_z-of_z}
use Rattle.jiff.specs.Words.{IsTimestampNanos, nanos_of_seconds, offset_at, plain_zone}
use Rattle.cck_cache.specs.Record.{second_nanos}
use Rattle.cck_cache.proofs.record.local_time.Goals as goal

pub returns-in_default : goal.returns-in_default
returns-in_default c = λ h.
    let fits : FitsSigned w64 c.seconds.result = search rules in
    let same = to_z-of_z w64 c.seconds.result fits ∙ c.seconds.ensures in
    false≢true (c.in_default.ensures.succeeds.1 (subst (λ (s : ℤ). IsTimestampNanos (second_nanos s)) (sym same) h))

pub returns : goal.returns
returns c =
    let fits : FitsSigned w64 c.seconds.result = search rules in
    let same = to_z-of_z w64 c.seconds.result fits ∙ c.seconds.ensures in (
      subst (λ (s : ℤ). IsTimestampNanos (second_nanos s)) same (c.in-Ok.ensures.succeeds.0 refl),
      c.to_datetime.ensures
          ∙ ap (λ (n : ℤ). n +ℤ nanos_of_seconds (offset_at (plain_zone c.args.zone.now) n))
          (c.in-Ok.ensures.value ∙ ap second_nanos same),
    )
