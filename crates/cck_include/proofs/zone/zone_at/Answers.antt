use Rattle.std.proofs.Common.{rules}
use Rattle.cck_include.proofs.zone.zone_at.Goals as goal

pub returns-in-Ok-clause-zone : goal.returns-in-Ok-clause-zone
returns-in-Ok-clause-zone c = (c.in-Ok.offset, (search rules), c.fixed.ensures)
