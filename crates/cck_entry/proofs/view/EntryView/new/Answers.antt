use Rattle.cck_entry.proofs.LentLemmas.{lent_empty}
use Rattle.cck_entry.proofs.view.EntryView.new.Goals as goal

pub returns : goal.returns
returns c = lent_empty c.new.result.items c.new.ensures.items
