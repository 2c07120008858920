use Rattle.cck_entry.proofs.LawLemmas.{added_is_limited}
use Rattle.cck_entry.proofs.laws.added_is_limited.Goals as goal

pub returns : goal.returns
returns c = added_is_limited
