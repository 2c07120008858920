use Rattle.cck_entry.proofs.LawLemmas.{one_text_one_entry}
use Rattle.cck_entry.proofs.laws.one_text_one_entry.Goals as goal

pub returns : goal.returns
returns c = one_text_one_entry
