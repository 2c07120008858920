use Rattle.cck_files.proofs.MaterialLemmas.{material_of_file}
use Rattle.cck_files.proofs.laws.file_material.Goals as goal

pub returns : goal.returns
returns c = material_of_file
