use Rattle.cck_entry.proofs.GreatestLemmas.{greatest_of}
use Rattle.cck_entry.proofs.laws.greatest_is_found.Goals as goal

pub returns : goal.returns
returns c = greatest_of
