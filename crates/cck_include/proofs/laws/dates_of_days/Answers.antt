use Rattle.cck_include.proofs.CalendarLemmas.{date_has_day, date_is_found}
use Rattle.cck_include.proofs.EveryDayLemmas.{every_day}
use Rattle.cck_include.proofs.laws.dates_of_days.Goals as goal

pub returns-clause-day : goal.returns-clause-day
returns-clause-day c = date_has_day

pub returns-clause-date : goal.returns-clause-date
returns-clause-date c = date_is_found

pub returns-clause-every : goal.returns-clause-every
returns-clause-every c = every_day
