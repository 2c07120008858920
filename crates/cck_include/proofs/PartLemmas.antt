-- What follows if two time parts are equal.
use Rattle.std.proofs.Common.{◌≡◌, ℕ, List, [], ◌++◌, length, codes, refl, sym, ap, ◌∙◌, arith, Bool, true, false, if◌then◌else◌, Option, Some, None, ℤ, pos, neg_ℤ, int_le, FitsSigned}
use Rattle.std.specs.Int.{w64}
use Rattle.std.specs.Option.{option_map, option_and_then, unwrap_or}
use Rattle.std.proofs.lemmas.Int.{ints}
use Rattle.std.proofs.lemmas.List.{append_cancel_left, length-append}
use Rattle.std.proofs.lemmas.Bool.{and_parts}
use Rattle.jiff.specs.Types.{TimeZone, UTC, Unknown, Fixed, Posix, Tzif}
use Rattle.jiff.specs.Words.{offset_at, IsOffsetSeconds, IsTimestampNanos, IsEpochDay}
use Rattle.jiff_core.proofs.SignedLemmas.{signed_arith}
use Rattle.jiff_tz.specs.PosixRule as PosixRule
use Rattle.jiff_tz.specs.Tzif as Table
use Rattle.cck_digest.proofs.FrameLemmas.{option_reads_back}
use Rattle.cck_digest.proofs.ReadsBack.{bytes_read_back}
use Rattle.cck_digest.specs.Frames.{framed_option}
use Rattle.cck_path.specs.Timestamp.{Moment, nanos_of}
use Rattle.cck_path.specs.Variables.{Variable}
use Rattle.cck_path.proofs.TestLemmas.{from_and_then}
use Rattle.cck_include.specs.Calendar.{CivilDate, IsInCalendar, day_number}
use Rattle.cck_include.specs.TimePart.{AreOfOneSecond, is_instant, instant_nanos, local_day, local_second, local_date, delimiter, i64_bytes, date_bytes, source_date_epoch, date_part, timestamp_part, time_part}
use Rattle.cck_include.proofs.CalendarLemmas.{date_has_day}
use Rattle.cck_include.proofs.NumberLemmas.{i64_back, nested, date_reads_back}

-- no zone is further from UTC than an offset may be
offset_range : (zone : TimeZone) (n : ℤ) → IsOffsetSeconds (offset_at zone n)
unfolding offset_at
offset_range UTC n = omega (arith, signed_arith)
offset_range Unknown n = omega (arith, signed_arith)
offset_range (Fixed o) n = o.in_range
offset_range (Posix tz) n = (PosixRule.offset_at tz n).in_range
offset_range (Tzif z) n = (Table.offset_at z.now n).in_range

pub instant_range : (n : ℤ) → is_instant n ≡ true → IsTimestampNanos n
instant_range n h =
    let b = and_parts (int_le (neg_ℤ (pos 377_705_023_201_000_000_000)) n) (int_le n (pos 253_402_207_200_999_999_999)) h in
    (grind (arith, ints, b.0), grind (arith, ints, b.1))

second_fits : (zone : TimeZone) (n : ℤ) → is_instant n ≡ true → FitsSigned w64 (local_second zone n)
second_fits zone n h = omega (arith, signed_arith, offset_range zone n, instant_range n h)

pub day_range : (zone : TimeZone) (n : ℤ) → is_instant n ≡ true → IsEpochDay (local_day zone n)
day_range zone n h = omega (arith, signed_arith, offset_range zone n, instant_range n h)

pub one_day_is : (zone : TimeZone) (m n : ℤ) (a b : CivilDate) → local_date zone m ≡ Some a → local_date zone n ≡ Some b → date_bytes a ≡ date_bytes b → local_day zone m ≡ local_day zone n
one_day_is zone m n a b p q e =
    let first = date_has_day (local_day zone m) a p in
    let second = date_has_day (local_day zone n) b q in
    let same = date_reads_back a b first.0 second.0 [] [] (ap (λ (l : List ℕ). l ++ []) e) in
    sym first.1 ∙ ap day_number same.0 ∙ second.1

pub one_second_is : (zone : TimeZone) (m n : ℤ) → is_instant m ≡ true → is_instant n ≡ true → i64_bytes (local_second zone m) ≡ i64_bytes (local_second zone n) → local_second zone m ≡ local_second zone n
one_second_is zone m n p q e = i64_back (local_second zone m) (local_second zone n) (second_fits zone m p) (second_fits zone n q) e

-- if the image of an option is there, the option is there
from_map : {X Y : Type 0} (f : X → Y) (o : Option X) (y : Y) → option_map f o ≡ Some y → (x : X) × (o ≡ Some x) × (f x ≡ y)
from_map f None y e = absurd cc
from_map {Y = Y} f (Some x) y e = (x, refl, ap (λ (p : Option Y). unwrap_or p y) e)

from_instant : (t : Moment) (n : ℤ) → instant_nanos t ≡ Some n → (is_instant (nanos_of t) ≡ true) × (nanos_of t ≡ n)
from_instant t n e = by (is_instant (nanos_of t)) refl e
  where
    by : (b : Bool) → is_instant (nanos_of t) ≡ b → (if b then Some (nanos_of t) else None) ≡ Some n → (is_instant (nanos_of t) ≡ true) × (nanos_of t ≡ n)
    by true at k = (at, ap (λ (o : Option ℤ). unwrap_or o n) k)
    by false at k = absurd cc

pub from_date_part : (moment : Moment) (zone : TimeZone) (v : List Variable) (part : List ℕ) → date_part true moment zone v ≡ Some part
    → (d : CivilDate) × IsInCalendar d × (day_number d ≡ local_day zone (nanos_of moment)) × (is_instant (nanos_of moment) ≡ true) × ((delimiter (codes "date") ++ date_bytes d) ++ framed_option (source_date_epoch v) ≡ part)
unfolding date_part
from_date_part moment zone v part e =
    let date = from_map (λ d. (delimiter (codes "date") ++ date_bytes d) ++ framed_option (source_date_epoch v)) (option_and_then (local_date zone) (instant_nanos moment)) part e in
    let instant = from_and_then (local_date zone) (instant_nanos moment) date.0 date.1 in
    let at = from_instant moment instant.0 instant.1 in
    let is = date_has_day (local_day zone instant.0) date.0 instant.2 in
    (date.0, is.0, is.1 ∙ ap (λ (n : ℤ). local_day zone n) (sym at.1), at.0, date.2)

pub from_timestamp_part : (modified : Option Moment) (zone : TimeZone) (part : List ℕ) → timestamp_part true modified zone ≡ Some part
    → (t : Moment) × (modified ≡ Some t) × (is_instant (nanos_of t) ≡ true) × (delimiter (codes "timestamp") ++ i64_bytes (local_second zone (nanos_of t)) ≡ part)
unfolding timestamp_part
from_timestamp_part modified zone part e =
    let second = from_map (λ n. delimiter (codes "timestamp") ++ i64_bytes (local_second zone n)) (option_and_then instant_nanos modified) part e in
    let instant = from_and_then instant_nanos modified second.0 second.1 in
    let at = from_instant instant.0 second.0 instant.2 in
    (instant.0, instant.1, at.0, ap (λ (n : ℤ). delimiter (codes "timestamp") ++ i64_bytes (local_second zone n)) at.1 ∙ second.2)

pub from_time_part : (date timestamp : Bool) (modified : Option Moment) (moment : Moment) (zone : TimeZone) (v : List Variable) (part : List ℕ) → time_part date timestamp modified moment zone v ≡ Some part
    → (d : List ℕ) × (s : List ℕ) × (date_part date moment zone v ≡ Some d) × (timestamp_part timestamp modified zone ≡ Some s) × (d ++ s ≡ part)
unfolding time_part
from_time_part date timestamp modified moment zone v part e =
    let day = from_and_then (λ d. option_map (λ s. d ++ s) (timestamp_part timestamp modified zone)) (date_part date moment zone v) part e in
    let second = from_map (λ s. day.0 ++ s) (timestamp_part timestamp modified zone) part day.2 in
    (day.0, second.0, day.1, second.1, second.2)

i64_length : (a b : ℤ) → length (i64_bytes a) ≡ length (i64_bytes b)
unfolding i64_bytes
i64_length a b = refl

-- the seconds' parts for one flag have equal lengths
stamp_length : (timestamp : Bool) (m n : Option Moment) (zone : TimeZone) (s t : List ℕ) → timestamp_part timestamp m zone ≡ Some s → timestamp_part timestamp n zone ≡ Some t → length s ≡ length t
unfolding timestamp_part
stamp_length false m n zone s t p q = ap (λ (o : Option (List ℕ)). length (unwrap_or o s)) (sym p ∙ q)
stamp_length true m n zone s t p q =
    let first = from_timestamp_part m zone s p in
    let second = from_timestamp_part n zone t q in
    let i : List ℕ = i64_bytes (local_second zone (nanos_of first.0)) in
    let j : List ℕ = i64_bytes (local_second zone (nanos_of second.0)) in
    omega (arith, ap length first.3, ap length second.3, length-append (delimiter (codes "timestamp")) i, length-append (delimiter (codes "timestamp")) j, i64_length (local_second zone (nanos_of first.0)) (local_second zone (nanos_of second.0)))

-- equal parts have the same day, and the same value of the variable
pub day_is_determined : (zone : TimeZone) (timestamp : Bool) (m n : Option Moment) (a b : Moment) (v w : List Variable) (part : List ℕ)
    → time_part true timestamp m a zone v ≡ Some part → time_part true timestamp n b zone w ≡ Some part
    → (local_day zone (nanos_of a) ≡ local_day zone (nanos_of b)) × (source_date_epoch v ≡ source_date_epoch w)
day_is_determined zone timestamp m n a b v w part p q =
    let x = from_time_part true timestamp m a zone v part p in
    let y = from_time_part true timestamp n b zone w part q in
    let first = from_date_part a zone v x.0 x.2 in
    let second = from_date_part b zone w y.0 y.2 in
    let left = sym (nested (delimiter (codes "date")) (date_bytes first.0) (framed_option (source_date_epoch v)) x.1) ∙ ap (λ (l : List ℕ). l ++ x.1) first.4 ∙ x.4 in
    let right = sym (nested (delimiter (codes "date")) (date_bytes second.0) (framed_option (source_date_epoch w)) y.1) ∙ ap (λ (l : List ℕ). l ++ y.1) second.4 ∙ y.4 in
    let following = append_cancel_left (delimiter (codes "date")) _ _ (left ∙ sym right) in
    let same = date_reads_back first.0 second.0 first.1 second.1 (framed_option (source_date_epoch v) ++ x.1) (framed_option (source_date_epoch w) ++ y.1) following in
    let claim = option_reads_back (source_date_epoch v) (source_date_epoch w) x.1 y.1 same.1 in
    (sym first.2 ∙ ap day_number same.0 ∙ second.2, claim.0)

-- and the same second
pub second_is_determined : (zone : TimeZone) (date : Bool) (m n : Option Moment) (a b : Moment) (v w : List Variable) (part : List ℕ)
    → time_part date true m a zone v ≡ Some part → time_part date true n b zone w ≡ Some part
    → AreOfOneSecond zone m n
second_is_determined zone date m n a b v w part p q =
    let x = from_time_part date true m a zone v part p in
    let y = from_time_part date true n b zone w part q in
    let long : length x.0 ≡ length y.0 = omega (arith, ap length x.4, ap length y.4, length-append x.0 x.1, length-append y.0 y.1, stamp_length true m n zone x.1 y.1 x.3 y.3) in
    let back = (bytes_read_back x.0 y.0 x.1 y.1 long (x.4 ∙ sym y.4)).1 in
    let first = from_timestamp_part m zone x.1 x.3 in
    let second = from_timestamp_part n zone y.1 y.3 in
    let bytes = append_cancel_left (delimiter (codes "timestamp")) _ _ (first.3 ∙ back ∙ sym second.3) in
    rw (first.1, second.1) (one_second_is zone (nanos_of first.0) (nanos_of second.0) first.2 second.2 bytes)
