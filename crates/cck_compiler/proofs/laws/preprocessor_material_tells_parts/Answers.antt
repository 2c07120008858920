use Rattle.cck_compiler.proofs.MaterialLemmas.{preprocessor_material_tells_parts}
use Rattle.cck_compiler.proofs.laws.preprocessor_material_tells_parts.Goals as goal

pub returns : goal.returns
returns c = preprocessor_material_tells_parts
