use Rattle.cck_entry.proofs.LawLemmas.{added_to_all_or_nothing}
use Rattle.cck_entry.proofs.laws.added_to_all_or_nothing.Goals as goal

pub returns : goal.returns
returns c = added_to_all_or_nothing
