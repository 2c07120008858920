use Rattle.cck_entry.proofs.KnownLemmas.{none_known}
use Rattle.cck_entry.proofs.known.KnownFiles.new.Goals as goal

pub returns : goal.returns
returns c = λ s files. none_known s files _ _ c.new.ensures.items
