use Rattle.cck_include.proofs.OneList.{not_named, named_same, unnamed_same}
use Rattle.cck_include.proofs.laws.one_name_at_one_place.Goals as goal

pub returns-clause-apart : goal.returns-clause-apart
returns-clause-apart c = not_named

pub returns-clause-unnamed : goal.returns-clause-unnamed
returns-clause-unnamed c = λ text a b. (unnamed_same text a b).0

pub returns-clause-named : goal.returns-clause-named
returns-clause-named c = named_same
