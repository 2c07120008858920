use Rattle.cck_entry.proofs.EntryLemmas.{empty_in}
use Rattle.cck_entry.proofs.entry.PreprocessorCacheEntry.new.Goals as goal

pub returns : goal.returns
returns c = empty_in c.new.result.entries c.new.ensures.empty
