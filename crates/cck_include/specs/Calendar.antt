-- the calendar, and the date of a day
use Rattle.std.specs.Prelude.{ℕ, ℤ, pos, ◌-ℤ◌, List, map, Option}
use Rattle.std.specs.List.{find, flat_map, range_with_len}
use Rattle.std.specs.Ordering.{int_eq}
use Rattle.jiff.specs.Types.{Date}
use Rattle.jiff_core.specs.Calendar.{days_from_civil, days_in_month, IsCivilDate}

-- a year, a month from 1 and a day of the month from 1; the year before 1 is 0
pub record CivilDate : Type 0 where
  pub year : ℤ
  pub month : ℕ
  pub day : ℕ

-- the year, the month and the day of a `jiff` date
abbrev pub civil_date : Date → CivilDate
civil_date d = record { year = d.year; month = d.month; day = d.day }

-- the calendar has this date
abbrev pub IsInCalendar : CivilDate → Type 0
IsInCalendar d = IsCivilDate d.year d.month d.day

-- the number of the date's day: 0 for 1 January 1970, and negative before it
abbrev pub day_number : CivilDate → ℤ
day_number d = days_from_civil d.year d.month d.day

-- the dates of a month, and of a year
abbrev pub dates_of_month : ℤ → ℕ → List CivilDate
dates_of_month y m = map (λ d. record { year = y; month = m; day = d }) (range_with_len 1 (days_in_month y m))

abbrev pub dates_of_year : ℤ → List CivilDate
dates_of_year y = flat_map (dates_of_month y) (range_with_len 1 12)

-- every date, from the year -9999 to the year 9999
unfoldable pub calendar : List CivilDate
calendar = flat_map (λ k. dates_of_year (pos k -ℤ pos 9999)) (range_with_len 0 19999)

-- the date whose day has this number, if the calendar has it
unfoldable pub date_of_day : ℤ → Option CivilDate
date_of_day day = find (λ d. int_eq (day_number d) day) calendar
