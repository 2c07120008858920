use Rattle.std.proofs.Common.{◌≡◌, ap, ◌∙◌, rules, FitsSigned, w64}
use Rattle.std.proofs.lemmas.Int.{to_z-of_z}
use Rattle.jiff.specs.Words.{civil_seconds}
use Rattle.cck_include.proofs.ClockLemmas.{second_is}
use Rattle.cck_include.proofs.part.second_at.Goals as goal

pub returns : goal.returns
returns c =
    let e = second_is c.to_datetime.result _ _ c.to_datetime.ensures in
    let is : c.to_second.result ≡ civil_seconds c.to_datetime.result = c.to_second.ensures.value ∙ ap civil_seconds c.to_plain.ensures in
    let fits : FitsSigned w64 c.to_second.result = search rules in
    rw (to_z-of_z w64 c.to_second.result fits) (is ∙ e)
