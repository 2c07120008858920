use Rattle.std.specs.FinMap.{len-entries}
use Rattle.std.proofs.lemmas.List.{length-map}
use Rattle.cck_entry.proofs.EntryLemmas.{entries_in}
use Rattle.cck_entry.proofs.entry.PreprocessorCacheEntry.result_count.Goals as goal

pub returns : goal.returns
returns c = rw (← c.self.view_is, len-entries, entries_in c.self.inside.results.entries c.self.invariant.0, length-map) c.len.ensures.len
