use Rattle.std.proofs.Common.{sym}
use Rattle.cck_command.proofs.ExpandLemmas.{piece_found, piece_plain}
use Rattle.cck_command.proofs.mini.expand.next_piece.Goals as goal

pub returns-in-None-clause-text : goal.returns-in-None-clause-text
returns-in-None-clause-text c = piece_plain _ _ c.plain_size-size.result (sym c.in-None.ensures.value) c.plain_size-size.ensures.within c.plain_size-size.ensures.plain

pub returns-in-Some-clause-text : goal.returns-in-Some-clause-text
returns-in-Some-clause-text c = piece_found _ _ _ _ (sym c.in-Some.ensures.value) c.in-Some.ensures.some c.requires
