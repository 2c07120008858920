use Rattle.cck_files.proofs.MaterialLemmas.{no_material_of_error}
use Rattle.cck_files.proofs.laws.errors_tell_no_material.Goals as goal

pub returns : goal.returns
returns c = no_material_of_error
