use Rattle.cck_entry.proofs.EntryLemmas.{entries_in}
use Rattle.cck_entry.proofs.entry.PreprocessorCacheEntry.number_of_entries.Goals as goal

pub returns : goal.returns
returns c = rw (← c.self.view_is, entries_in c.self.inside.results.entries c.self.invariant.0) c.self.invariant.1
