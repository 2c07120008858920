use Rattle.cck_explain_listing.proofs.RestLemmas.{wrong_is_placed}
use Rattle.cck_explain_listing.proofs.laws.wrong_is_placed.Goals as goal

pub returns : goal.returns
returns c = wrong_is_placed
