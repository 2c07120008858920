use Rattle.std.proofs.Common.{ap, ◌∙◌}
use Rattle.cck_path.specs.Path.{components}
use Rattle.cck_files.specs.FileState.{files_of}
use Rattle.cck_files.proofs.PlacesLemmas.{files_without}
use Rattle.cck_files.proofs.map_files.MapFiles.remove.Goals as goal

pub returns : goal.returns
returns c = rw (← c.self.view_is) (λ i. record { files = (ap files_of c.remove.ensures.rest ∙ files_without c.self.inside.places (components c.args.path.now)) i; faults = c.self.inside.faults; armed = c.self.inside.armed })
