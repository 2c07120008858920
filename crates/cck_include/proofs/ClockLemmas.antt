-- The civil time in a zone is jiff's.
use Rattle.std.proofs.Common.{◌≡◌, ap, ◌∙◌, arith, ℤ, pos}
use Rattle.std.specs.Int.{int_div_euclid}
use Rattle.jiff.specs.Types.{TimeZone}
use Rattle.jiff_core.specs.Date.{epoch_day}
use Rattle.jiff_core.specs.DateTime.{civil_nanos, civil_seconds}
use Rattle.jiff_core.specs.declared.civil.datetime.DateTime.{DateTime}
use Rattle.jiff_core.proofs.SignedLemmas.{signed_arith}
use Rattle.jiff_core.proofs.DateTimeLemmas.{civil_nanos-civil_seconds, epoch_day-civil_nanos}
use Rattle.cck_include.specs.TimePart.{local_nanos, local_day, local_second}

-- the seconds of a civil time are its nanoseconds, rounded down
civil_seconds_is : (dt : DateTime) → civil_seconds dt ≡ int_div_euclid (civil_nanos dt) (pos 1_000_000_000)
civil_seconds_is dt = omega (arith, signed_arith, civil_nanos-civil_seconds dt, dt.time.subsec_in)

-- the local day and the local second are those of the civil time
pub day_is : (dt : DateTime) (zone : TimeZone) (n : ℤ) → civil_nanos dt ≡ local_nanos zone n → epoch_day dt.date ≡ local_day zone n
day_is dt zone n e = epoch_day-civil_nanos dt ∙ ap (λ (m : ℤ). int_div_euclid m (pos 86_400_000_000_000)) e

pub second_is : (dt : DateTime) (zone : TimeZone) (n : ℤ) → civil_nanos dt ≡ local_nanos zone n → civil_seconds dt ≡ local_second zone n
second_is dt zone n e = civil_seconds_is dt ∙ ap (λ (m : ℤ). int_div_euclid m (pos 1_000_000_000)) e
