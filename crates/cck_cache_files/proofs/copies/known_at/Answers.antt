use Rattle.std.proofs.Common.{Some}
use Rattle.cck_cache_files.proofs.copies.known_at.Goals as goal

pub returns-in-Ok-clause-known : goal.returns-in-Ok-clause-known
returns-in-Ok-clause-known c = (Some c.in-Ok.metadata, c.in-Ok.ensures.outcome, c.known_of.ensures)
