use Rattle.std.proofs.Common.{◌∙◌}
use Rattle.std.specs.FinMap.{len-entries}
use Rattle.std.proofs.lemmas.List.{length-map}
use Rattle.cck_entry.proofs.LentLemmas.{lent_entries}
use Rattle.cck_entry.proofs.view.EntryView.result_count.Goals as goal

pub returns : goal.returns
returns c = rw (← c.self.view_is, len-entries, lent_entries c.self.inside.results.items c.self.invariant.ascend, length-map) (c.len.ensures ∙ c.self.inside.results.ok.0)
