use Rattle.jiff_core.proofs.DateLemmas.{civil}
use Rattle.cck_include.specs.Calendar.{civil_date}
use Rattle.cck_include.proofs.CalendarLemmas.{date_is_found}
use Rattle.cck_include.proofs.ClockLemmas.{day_is}
use Rattle.cck_include.proofs.part.date_at.Goals as goal

pub returns : goal.returns
returns c = rw (c.date.ensures, ← day_is c.to_datetime.result _ _ c.to_datetime.ensures) (date_is_found (civil_date c.to_datetime.result.date) (civil c.to_datetime.result.date))
