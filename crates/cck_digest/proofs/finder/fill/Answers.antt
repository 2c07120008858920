use Rattle.std.proofs.Common.{rules}
use Rattle.std.proofs.lemmas.Slice.{overwrites}
use Rattle.cck_digest.proofs.finder.fill.Goals as goal

pub returns-clause-across : goal.returns-clause-across
returns-clause-across c = search (rules, overwrites)
