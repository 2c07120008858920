use Rattle.cck_entry.proofs.LentLemmas.{lent_entries}
use Rattle.cck_entry.proofs.view.EntryView.number_of_entries.Goals as goal

pub returns : goal.returns
returns c = rw (← c.self.view_is, lent_entries c.self.inside.results.items c.self.invariant.ascend) c.self.invariant.count
