use Rattle.cck_files.proofs.MaterialLemmas.{material_of_folder}
use Rattle.cck_files.proofs.laws.folder_material.Goals as goal

pub returns : goal.returns
returns c = material_of_folder
