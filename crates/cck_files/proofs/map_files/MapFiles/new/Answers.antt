use Rattle.std.proofs.Common.{ap, ◌∙◌}
use Rattle.cck_files.specs.FileState.{files_of}
use Rattle.cck_files.proofs.PlacesLemmas.{files_none}
use Rattle.cck_files.proofs.map_files.MapFiles.new.Goals as goal

pub returns : goal.returns
returns c = λ i. record { files = (ap files_of c.new.ensures ∙ files_none) i; faults = 0; armed = c.new-2.ensures i }
