use Rattle.cck_entry.proofs.LentLemmas.{lent_entries}
use Rattle.cck_entry.proofs.view.EntryView.results.Goals as goal

pub returns-clause-entries : goal.returns-clause-entries
returns-clause-entries c = rw (← c.self.view_is, c.deref.ensures.value) (lent_entries c.self.inside.results.items c.self.invariant.ascend)
