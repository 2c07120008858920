use Rattle.std.proofs.Common.{◌∙◌, sym}
use Rattle.std.specs.FinMap.{same_entries_map}
use Rattle.cck_entry.specs.Entry.{entry_in}
use Rattle.cck_entry.proofs.EntryLemmas.{entries_in}
use Rattle.cck_entry.proofs.entry.copy_view.Goals as goal

pub returns-clause-value : goal.returns-clause-value
returns-clause-value c =
    let es = c.in_ok-results.results.entries in
    same_entries_map (entry_in es) c.args.view.now (entries_in es c.in_ok-results.ensures.ordered ∙ c.in_ok-results.ensures.value ∙ sym c.results.ensures.entries)
