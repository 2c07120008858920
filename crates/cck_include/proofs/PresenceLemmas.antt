-- When there is a time part.
use Rattle.std.proofs.Common.{◌≡◌, ℕ, List, [], ◌++◌, codes, refl, sym, ap, ◌∙◌, subst, arith, Bool, true, false, Option, Some, None, ℤ, pos, neg_ℤ, int_le, if◌then◌else◌}
use Rattle.std.specs.Option.{option_map, option_and_then, IsSome, IsSomeAnd}
use Rattle.std.proofs.lemmas.Int.{ints}
use Rattle.jiff.specs.Types.{TimeZone}
use Rattle.jiff.specs.Words.{IsTimestampNanos}
use Rattle.cck_digest.specs.Frames.{framed_option}
use Rattle.cck_path.specs.Timestamp.{Moment, nanos_of}
use Rattle.cck_path.specs.Variables.{Variable}
use Rattle.cck_include.specs.TimePart.{is_instant, instant_nanos, local_day, local_second, local_date, delimiter, i64_bytes, date_bytes, source_date_epoch, date_part, timestamp_part, time_part}
use Rattle.cck_include.proofs.EveryDayLemmas.{every_day}
use Rattle.cck_include.proofs.PartLemmas.{day_range, from_date_part, from_timestamp_part, from_time_part, instant_range}

pub range_instant : (n : ℤ) → IsTimestampNanos n → is_instant n ≡ true
range_instant n h =
    let low : int_le (neg_ℤ (pos 377_705_023_201_000_000_000)) n ≡ true = grind (arith, ints, h.0) in
    let high : int_le n (pos 253_402_207_200_999_999_999) ≡ true = grind (arith, ints, h.1) in
    rw (low, high) refl

-- an option that is there, and its value
some_of : {X : Type 0} (o : Option X) → IsSome o → (x : X) × (o ≡ Some x)
some_of None h = absurd cc
some_of (Some x) h = (x, refl)

instant_there : (t : Moment) → IsTimestampNanos (nanos_of t) → instant_nanos t ≡ Some (nanos_of t)
instant_there t h = ap (λ (b : Bool). if b then Some (nanos_of t) else None) (range_instant (nanos_of t) h)

date_there : (date : Bool) (moment : Moment) (zone : TimeZone) (v : List Variable) → (date ≡ true → IsTimestampNanos (nanos_of moment)) → (part : List ℕ) × (date_part date moment zone v ≡ Some part)
unfolding date_part
date_there false moment zone v h = ([], refl)
date_there true moment zone v h =
    let n = instant_there moment (h refl) in
    let d = every_day (local_day zone (nanos_of moment)) (day_range zone (nanos_of moment) (range_instant (nanos_of moment) (h refl))) in
    ((delimiter (codes "date") ++ date_bytes d.0) ++ framed_option (source_date_epoch v), ap (λ o. option_map (λ e. (delimiter (codes "date") ++ date_bytes e) ++ framed_option (source_date_epoch v)) (option_and_then (local_date zone) o)) n ∙ ap (λ o. option_map (λ e. (delimiter (codes "date") ++ date_bytes e) ++ framed_option (source_date_epoch v)) o) d.1)

stamp_there : (timestamp : Bool) (modified : Option Moment) (zone : TimeZone) → (timestamp ≡ true → IsSomeAnd modified (λ t. IsTimestampNanos (nanos_of t))) → (part : List ℕ) × (timestamp_part timestamp modified zone ≡ Some part)
unfolding timestamp_part
stamp_there false modified zone h = ([], refl)
stamp_there true None zone h = absurd (h refl)
stamp_there true (Some t) zone h =
    let n = instant_there t (h refl) in
    (delimiter (codes "timestamp") ++ i64_bytes (local_second zone (nanos_of t)), ap (λ o. option_map (λ k. delimiter (codes "timestamp") ++ i64_bytes (local_second zone k)) o) n)

pub part_there : (date timestamp : Bool) (modified : Option Moment) (moment : Moment) (zone : TimeZone) (v : List Variable)
    → (date ≡ true → IsTimestampNanos (nanos_of moment)) × (timestamp ≡ true → IsSomeAnd modified (λ t. IsTimestampNanos (nanos_of t)))
    → IsSome (time_part date timestamp modified moment zone v)
unfolding time_part
part_there date timestamp modified moment zone v h =
    let d = date_there date moment zone v h.0 in
    let s = stamp_there timestamp modified zone h.1 in
    rw (d.1, s.1) refl

moment_in : (moment : Moment) (zone : TimeZone) (v : List Variable) (part : List ℕ) → date_part true moment zone v ≡ Some part → IsTimestampNanos (nanos_of moment)
moment_in moment zone v part e = instant_range (nanos_of moment) (from_date_part moment zone v part e).3

modified_in : (modified : Option Moment) (zone : TimeZone) (part : List ℕ) → timestamp_part true modified zone ≡ Some part → IsSomeAnd modified (λ t. IsTimestampNanos (nanos_of t))
modified_in modified zone part e =
    let t = from_timestamp_part modified zone part e in
    subst (λ (o : Option Moment). IsSomeAnd o (λ t. IsTimestampNanos (nanos_of t))) (sym t.1) (instant_range (nanos_of t.0) t.2)

pub there_part : (date timestamp : Bool) (modified : Option Moment) (moment : Moment) (zone : TimeZone) (v : List Variable)
    → IsSome (time_part date timestamp modified moment zone v)
    → (date ≡ true → IsTimestampNanos (nanos_of moment)) × (timestamp ≡ true → IsSomeAnd modified (λ t. IsTimestampNanos (nanos_of t)))
there_part date timestamp modified moment zone v h =
    let some = some_of (time_part date timestamp modified moment zone v) h in
    let both = from_time_part date timestamp modified moment zone v some.0 some.1 in
    (λ e. moment_in moment zone v both.0 (subst (λ (b : Bool). date_part b moment zone v ≡ Some both.0) e both.2), λ e. modified_in modified zone both.1 (subst (λ (b : Bool). timestamp_part b modified zone ≡ Some both.1) e both.3))
