-- Each day of the calendar has a date, and each instant a day.
use Rattle.std.proofs.Common.{◌≡◌, ℕ, zero, suc, ◌+◌, ◌<◌, ◌≤◌, inl, inr, refl, sym, ap, ◌∙◌, subst, arith, rules, Some, ℤ, pos, neg_ℤ, ◌+ℤ◌, ◌-ℤ◌, ◌<ℤ◌, ◌≤ℤ◌, unsigned_abs}
use Rattle.std.proofs.lemmas.Bool.{cases_lt}
use Rattle.std.proofs.lemmas.Int.{by_lt_z}
use Rattle.jiff.specs.Words.{IsEpochDay}
use Rattle.jiff_core.specs.Calendar.{days_from_civil, days_in_month, IsYear}
use Rattle.jiff_core.proofs.CalendarLemmas.{days_in_month_bounds}
use Rattle.jiff_core.proofs.DateLemmas.{days_from_civil-day, days_from_civil-next_month, days_from_civil-next_year, days_from_civil-min, days_from_civil-max}
use Rattle.jiff_core.proofs.SignedLemmas.{signed_arith}
use Rattle.cck_include.specs.Calendar.{CivilDate, IsInCalendar, day_number, date_of_day}
use Rattle.cck_include.proofs.CalendarLemmas.{abs_of, date_is_found}

-- a date of a day
abbrev HasDate : ℤ → Type 0
HasDate day = (d : CivilDate) × IsInCalendar d × (day_number d ≡ day)

-- the first of a month
first_in_calendar : (y : ℤ) (m : ℕ) → (neg_ℤ (pos 10000) <ℤ y) × (y <ℤ pos 10000) → (1 ≤ m) × (m ≤ 12) → IsInCalendar (record { year = y; month = m; day = 1 })
first_in_calendar y m h k = ((omega (arith, signed_arith, h), omega (arith, signed_arith, h)), k, (omega arith, omega (arith, days_in_month_bounds y m)))

-- within the month
next_in_month : (d : CivilDate) → IsInCalendar d → d.day < days_in_month d.year d.month → HasDate (day_number d +ℤ pos 1)
next_in_month d h lt =
    (record { year = d.year; month = d.month; day = d.day + 1 }, (h.0, h.1, (omega arith, omega (arith, lt))), omega (arith, signed_arith, days_from_civil-day d.year d.month d.day (d.day + 1) h.2.0 (omega arith)))

-- from its last day to the month that follows
next_month : (d : CivilDate) → IsInCalendar d → d.day ≡ days_in_month d.year d.month → d.month < 12 → HasDate (day_number d +ℤ pos 1)
next_month d h last lt =
    (record { year = d.year; month = d.month + 1; day = 1 }, first_in_calendar d.year (d.month + 1) (omega (arith, signed_arith, h.0), omega (arith, signed_arith, h.0)) (omega arith, omega (arith, lt)), days_from_civil-next_month d.year d.month d.day h.1.0 last)

-- 31 December of the last year is the last day
before_last_year : (y : ℤ) → days_from_civil y 12 31 <ℤ pos 2_932_896 → y ≤ℤ pos 9999 → y <ℤ pos 9999
before_last_year y h le =
    by_lt_z y (pos 9999) (λ lt. lt)
    (λ ge. let is : y ≡ pos 9999 = omega (arith, signed_arith, le, ge) in
    absurd (omega (arith, signed_arith, h, ap (λ (z : ℤ). days_from_civil z 12 31) is, days_from_civil-max)))

-- and from 31 December to the year that follows
next_year : (y : ℤ) → IsYear y → days_from_civil y 12 31 <ℤ pos 2_932_896 → HasDate (days_from_civil y 12 31 +ℤ pos 1)
next_year y h lt =
    let before : y <ℤ pos 9999 = before_last_year y lt h.1 in
    (record { year = y +ℤ pos 1; month = 1; day = 1 }, first_in_calendar (y +ℤ pos 1) 1 (omega (arith, signed_arith, h), omega (arith, signed_arith, before)) (omega arith, omega arith), days_from_civil-next_year y (y +ℤ pos 1) (omega (arith, signed_arith, h)) refl)

next_day : (d : CivilDate) → IsInCalendar d → day_number d <ℤ pos 2_932_896 → HasDate (day_number d +ℤ pos 1)
next_day d h lt =
    elim (cases_lt d.day (days_in_month d.year d.month)) [
      | inl within ↦ next_in_month d h within
      | inr past ↦
          let last : d.day ≡ days_in_month d.year d.month = omega (arith, h.2, past) in
          elim (cases_lt d.month 12) [
            | inl within_year ↦ next_month d h last within_year
            | inr past_year ↦
                let december : d.month ≡ 12 = omega (arith, h.1, past_year) in
                let end : d.day ≡ 31 = last ∙ ap (λ (m : ℕ). days_in_month d.year m) december in
                let same : days_from_civil d.year 12 31 ≡ day_number d = sym (λ i. days_from_civil d.year (december i) (end i)) in
                subst (λ (z : ℤ). HasDate (z +ℤ pos 1)) same (next_year d.year h.0 (subst (λ (z : ℤ). z <ℤ pos 2_932_896) (sym same) lt))
          ]
    ]

each_count : (k : ℕ) → k ≤ 7_304_483 → HasDate (pos k -ℤ pos 4_371_587)
each_count zero h = (record { year = neg_ℤ (pos 9999); month = 1; day = 1 }, first_in_calendar (neg_ℤ (pos 9999)) 1 (search rules, search rules) (search rules, search rules), days_from_civil-min)
each_count (suc k) h =
    let before = each_count k (omega (arith, h)) in
    let next = next_day before.0 before.1 (omega (arith, signed_arith, h, before.2)) in
    (next.0, next.1, next.2 ∙ omega (arith, signed_arith, before.2))

pub every_day : (day : ℤ) → IsEpochDay day → (d : CivilDate) × (date_of_day day ≡ Some d)
every_day day h =
    let k : ℕ = unsigned_abs (day +ℤ pos 4_371_587) in
    let whole : pos k ≡ day +ℤ pos 4_371_587 = abs_of (day +ℤ pos 4_371_587) (omega (arith, signed_arith, h)) in
    let is : pos k -ℤ pos 4_371_587 ≡ day = omega (arith, signed_arith, whole) in
    found_by_day day (subst HasDate is (each_count k (omega (arith, signed_arith, whole, h))))
  where
    found_by_day : (z : ℤ) → HasDate z → (d : CivilDate) × (date_of_day z ≡ Some d)
    found_by_day z at = (at.0, subst (λ (n : ℤ). date_of_day n ≡ Some at.0) at.2 (date_is_found at.0 at.1))
