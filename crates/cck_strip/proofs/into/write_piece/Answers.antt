use Rattle.std.proofs.Common.{rules}
use Rattle.std.proofs.lemmas.Slice.{overwrites}
use Rattle.cck_strip.proofs.into.write_piece.Goals as goal

pub returns-clause-piece : goal.returns-clause-piece
returns-clause-piece c = search (rules, overwrites)

pub returns-clause-rest : goal.returns-clause-rest
returns-clause-rest c = search (rules, overwrites)
