use Rattle.cck_explain.proofs.ListingLemmas.{parts_are_material}
use Rattle.cck_explain.proofs.laws.parts_are_material.Goals as goal

pub returns : goal.returns
returns c = parts_are_material
