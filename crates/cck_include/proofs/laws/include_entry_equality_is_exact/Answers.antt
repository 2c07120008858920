use Rattle.cck_include.specs.Include.{include_in}
use Rattle.cck_include.proofs.EqualityLemmas.{include_decides}
use Rattle.cck_include.proofs.laws.include_entry_equality_is_exact.Goals as goal

pub returns : goal.returns
returns c = λ a b. include_decides (include_in a) (include_in b)
