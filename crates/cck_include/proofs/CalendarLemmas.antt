-- The date of a day number is the only one with this day number.
use Rattle.std.proofs.Common.{◌≡◌, ℕ, zero, suc, ◌+◌, ◌<◌, ◌≤◌, ◌⊎◌, inl, inr, List, [], ◌∷◌, ◌++◌, map, refl, sym, ap, ◌∙◌, subst, arith, Bool, true, false, cond, Option, Some, ℤ, pos, negsuc, ◌+ℤ◌, ◌-ℤ◌, ◌≤ℤ◌, unsigned_abs, int_eq}
use Rattle.std.specs.List.{find, flat_map, range_with_len}
use Rattle.std.specs.Option.{unwrap_or}
use Rattle.std.proofs.lemmas.Bool.{cases_eq, false≢true}
use Rattle.std.proofs.lemmas.Bool.Decides.{Decides-int_eq}
use Rattle.jiff_core.specs.Calendar.{days_in_month}
use Rattle.jiff_core.proofs.SignedLemmas.{signed_arith}
use Rattle.jiff_core.proofs.DateLemmas.{epoch_day_injective}
use Rattle.cck_include.specs.Calendar.{CivilDate, IsInCalendar, day_number, dates_of_month, dates_of_year, calendar, date_of_day}

-- an element of a list
abbrev IsAmong : CivilDate → List CivilDate → Type 0
IsAmong x [] = ⊥
IsAmong x (y ∷ ys) = (y ≡ x) ⊎ IsAmong x ys

among_front : (x : CivilDate) (xs ys : List CivilDate) → IsAmong x xs → IsAmong x (xs ++ ys)
among_front x [] ys h = absurd h
among_front x (y ∷ xs) ys (inl e) = inl e
among_front x (y ∷ xs) ys (inr h) = inr (among_front x xs ys h)

among_back : (x : CivilDate) (xs ys : List CivilDate) → IsAmong x ys → IsAmong x (xs ++ ys)
among_back x [] ys h = h
among_back x (y ∷ xs) ys h = inr (among_back x xs ys h)

among_either : (x : CivilDate) (xs ys : List CivilDate) → IsAmong x (xs ++ ys) → IsAmong x xs ⊎ IsAmong x ys
among_either x [] ys h = inr h
among_either x (y ∷ xs) ys (inl e) = inl (inl e)
among_either x (y ∷ xs) ys (inr h) = elim (among_either x xs ys h) [
  | inl front ↦ inl (inr front)
  | inr back ↦ inr back
]

-- an element of the image of a range is the image of a number of the range
among_map : (f : ℕ → CivilDate) (a n k : ℕ) → a ≤ k → k < a + n → IsAmong (f k) (map f (range_with_len a n))
among_map f a zero k le lt = absurd (omega arith)
among_map f a (suc n) k le lt = elim (cases_eq a k) [
  | inl e ↦ inl (ap f e)
  | inr ne ↦ inr (among_map f (a + 1) n k (omega arith) (omega arith))
]

from_map : (f : ℕ → CivilDate) (x : CivilDate) (a n : ℕ) → IsAmong x (map f (range_with_len a n)) → (k : ℕ) × (a ≤ k) × (k < a + n) × (f k ≡ x)
from_map f x a zero h = absurd h
from_map f x a (suc n) (inl e) = (a, omega arith, omega arith, e)
from_map f x a (suc n) (inr h) = let k = from_map f x (a + 1) n h in (k.0, omega (arith, k.1), omega (arith, k.2), k.3)

among_flat_map : (f : ℕ → List CivilDate) (x : CivilDate) (a n k : ℕ) → a ≤ k → k < a + n → IsAmong x (f k) → IsAmong x (flat_map f (range_with_len a n))
among_flat_map f x a zero k le lt h = absurd (omega arith)
among_flat_map f x a (suc n) k le lt h = elim (cases_eq a k) [
  | inl e ↦ among_front x (f a) (flat_map f (range_with_len (a + 1) n)) (subst (λ (i : ℕ). IsAmong x (f i)) (sym e) h)
  | inr ne ↦ among_back x (f a) (flat_map f (range_with_len (a + 1) n)) (among_flat_map f x (a + 1) n k (omega arith) (omega arith) h)
]

from_flat_map : (f : ℕ → List CivilDate) (x : CivilDate) (a n : ℕ) → IsAmong x (flat_map f (range_with_len a n)) → (k : ℕ) × (a ≤ k) × (k < a + n) × IsAmong x (f k)
from_flat_map f x a zero h = absurd h
from_flat_map f x a (suc n) h = elim (among_either x (f a) (flat_map f (range_with_len (a + 1) n)) h) [
  | inl front ↦ (a, omega arith, omega arith, front)
  | inr back ↦ let k = from_flat_map f x (a + 1) n back in (k.0, omega (arith, k.1), omega (arith, k.2), k.3)
]

-- a number that is not negative is its absolute value
pub abs_of : (z : ℤ) → pos 0 ≤ℤ z → pos (unsigned_abs z) ≡ z
abs_of (pos n) h = refl
abs_of (negsuc n) h = absurd (omega (arith, signed_arith, h))

among_month : (d : CivilDate) → IsInCalendar d → IsAmong d (dates_of_month d.year d.month)
among_month d h = among_map (λ i. record { year = d.year; month = d.month; day = i }) 1 (days_in_month d.year d.month) d.day (omega (arith, h.2)) (omega (arith, h.2))

among_year : (d : CivilDate) → IsInCalendar d → IsAmong d (dates_of_year d.year)
among_year d h = among_flat_map (dates_of_month d.year) d 1 12 d.month (omega (arith, h.1)) (omega (arith, h.1)) (among_month d h)

among_calendar : (d : CivilDate) → IsInCalendar d → IsAmong d calendar
unfolding calendar
among_calendar d h =
    let k : ℕ = unsigned_abs (d.year +ℤ pos 9999) in
    let whole : pos k ≡ d.year +ℤ pos 9999 = abs_of (d.year +ℤ pos 9999) (omega (arith, signed_arith, h.0)) in
    let year : pos k -ℤ pos 9999 ≡ d.year = omega (arith, signed_arith, whole) in
    among_flat_map (λ i. dates_of_year (pos i -ℤ pos 9999)) d 0 19999 k (omega arith) (omega (arith, signed_arith, whole, h.0))
    (subst (λ (y : ℤ). IsAmong d (dates_of_year y)) (sym year) (among_year d h))

from_calendar : (d : CivilDate) → IsAmong d calendar → IsInCalendar d
unfolding calendar
from_calendar d h =
    let year = from_flat_map (λ i. dates_of_year (pos i -ℤ pos 9999)) d 0 19999 h in
    let y : ℤ = pos year.0 -ℤ pos 9999 in
    let month : (k : ℕ) × (1 ≤ k) × (k < 1 + 12) × IsAmong d (dates_of_month y k) = from_flat_map (dates_of_month y) d 1 12 year.3 in
    let day = from_map (λ i. record { year = y; month = month.0; day = i }) d 1 (days_in_month y month.0) month.3 in
    subst IsInCalendar day.3
    ((omega (arith, signed_arith, year.2), omega (arith, signed_arith, year.2)), (month.1, omega (arith, month.2)), (day.1, omega (arith, day.2)))

-- what a search finds passes, and is there
found_in : (p : CivilDate → Bool) (xs : List CivilDate) (y : CivilDate) → find p xs ≡ Some y → (p y ≡ true) × IsAmong y xs
found_in p [] y e = absurd cc
found_in p (x ∷ xs) y e = by (p x) refl e (λ k. found_in p xs y k)
  where
    by : (b : Bool) → p x ≡ b → cond b (Some x) (find p xs) ≡ Some y → (find p xs ≡ Some y → (p y ≡ true) × IsAmong y xs) → (p y ≡ true) × ((x ≡ y) ⊎ IsAmong y xs)
    by true at k rest = let same : x ≡ y = ap (λ (o : Option CivilDate). unwrap_or o x) k in (subst (λ (z : CivilDate). p z ≡ true) same at, inl same)
    by false at k rest = let back = rest k in (back.0, inr back.1)

-- and it finds something where something passes
is_found : (p : CivilDate → Bool) (x : CivilDate) (xs : List CivilDate) → IsAmong x xs → p x ≡ true → (y : CivilDate) × (find p xs ≡ Some y)
is_found p x [] h e = absurd h
is_found p x (y ∷ xs) h e = by (p y) refl h (λ k. is_found p x xs k e)
  where
    by : (b : Bool) → p y ≡ b → (y ≡ x) ⊎ IsAmong x xs → (IsAmong x xs → (z : CivilDate) × (find p xs ≡ Some z)) → (z : CivilDate) × (cond b (Some y) (find p xs) ≡ Some z)
    by true at k rest = (y, refl)
    by false at (inl same) rest = absurd (false≢true (sym at ∙ ap p same ∙ e))
    by false at (inr k) rest = rest k

-- dates of one day are one
same_date : (a b : CivilDate) → IsInCalendar a → IsInCalendar b → day_number a ≡ day_number b → a ≡ b
same_date a b p q e =
    let same = epoch_day_injective (record { year = a.year; month = a.month; day = a.day; year_in = p.0; month_in = p.1; day_in = p.2 }) (record { year = b.year; month = b.month; day = b.day; year_in = q.0; month_in = q.1; day_in = q.2 }) e in
    λ i. record { year = same.0 i; month = same.1 i; day = same.2 i }

-- the date that is found has the day
pub date_has_day : (day : ℤ) (d : CivilDate) → date_of_day day ≡ Some d → IsInCalendar d × (day_number d ≡ day)
unfolding date_of_day
date_has_day day d e =
    let is = found_in (λ x. int_eq (day_number x) day) calendar d e in
    (from_calendar d is.1, (Decides-int_eq (day_number d) day).0 is.0)

-- and each date is found by its day
pub date_is_found : (d : CivilDate) → IsInCalendar d → date_of_day (day_number d) ≡ Some d
unfolding date_of_day
date_is_found d h =
    let p : CivilDate → Bool = λ x. int_eq (day_number x) (day_number d) in
    let found = is_found p d calendar (among_calendar d h) ((Decides-int_eq (day_number d) (day_number d)).1 refl) in
    let is = date_has_day (day_number d) found.0 found.1 in
    found.1 ∙ ap (λ (x : CivilDate). Some x) (same_date found.0 d is.0 h is.1)
