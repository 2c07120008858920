use Rattle.std.proofs.Common.{refl}
use Rattle.cck_util.proofs.laws.unknown_language_equality_is_exact.Goals as goal

pub returns : goal.returns
returns c = λ a b. (λ _. refl, λ _. refl)
