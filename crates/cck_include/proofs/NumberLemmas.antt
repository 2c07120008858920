-- Numbers with equal bytes are equal, and so are dates.
use Rattle.std.proofs.Common.{◌≡◌, ℕ, ◌<◌, ◌^◌, List, ◌++◌, refl, sym, ap, ◌∙◌, arith, append_assoc, ℤ, pos, negsuc, FitsSigned}
use Rattle.std.specs.Int.{w32, w64, cast_unsigned, cast_signed, from_le_bytes}
use Rattle.std.proofs.lemmas.Int.{to_z-of_z}
use Rattle.std.proofs.lemmas.Nat.{from_le_bytes-to_le_bytes_4, from_le_bytes-to_le_bytes_8}
use Rattle.jiff_core.proofs.CalendarLemmas.{days_in_month_bounds}
use Rattle.jiff_core.proofs.SignedLemmas.{signed_arith}
use Rattle.cck_digest.proofs.ReadsBack.{ReadsBack, bytes_read_back}
use Rattle.cck_include.specs.Calendar.{CivilDate, IsInCalendar}
use Rattle.cck_include.specs.TimePart.{u32_bytes, i32_bytes, i64_bytes, date_bytes}

u32_reads_back : (a b : ℕ) → a < 2 ^ 32 → b < 2 ^ 32 → ReadsBack u32_bytes a b
unfolding u32_bytes
u32_reads_back a b p q s t e =
    let both = bytes_read_back (u32_bytes a) (u32_bytes b) s t refl e in
    (sym (from_le_bytes-to_le_bytes_4 a p) ∙ ap (from_le_bytes w32) both.0 ∙ from_le_bytes-to_le_bytes_4 b q, both.1)

-- a number with a sign, as one without
bits_small : (z : ℤ) → FitsSigned w32 z → cast_unsigned w32 z < 2 ^ 32
bits_small (pos n) h = omega (arith, h.sfits)
bits_small (negsuc n) h = omega (arith, h.sfits)

pub long_bits_small : (z : ℤ) → FitsSigned w64 z → cast_unsigned w64 z < 2 ^ 64
long_bits_small (pos n) h = omega (arith, h.sfits)
long_bits_small (negsuc n) h = omega (arith, h.sfits)

i32_reads_back : (a b : ℤ) → FitsSigned w32 a → FitsSigned w32 b → ReadsBack i32_bytes a b
unfolding i32_bytes
i32_reads_back a b p q s t e =
    let both = bytes_read_back (i32_bytes a) (i32_bytes b) s t refl e in
    let bits : cast_unsigned w32 a ≡ cast_unsigned w32 b = sym (from_le_bytes-to_le_bytes_4 _ (bits_small a p)) ∙ ap (from_le_bytes w32) both.0 ∙ from_le_bytes-to_le_bytes_4 _ (bits_small b q) in
    (sym (to_z-of_z w32 a p) ∙ ap (cast_signed w32) bits ∙ to_z-of_z w32 b q, both.1)

pub i64_back : (a b : ℤ) → FitsSigned w64 a → FitsSigned w64 b → i64_bytes a ≡ i64_bytes b → a ≡ b
unfolding i64_bytes
i64_back a b p q e =
    let bits : cast_unsigned w64 a ≡ cast_unsigned w64 b = sym (from_le_bytes-to_le_bytes_8 _ (long_bits_small a p)) ∙ ap (from_le_bytes w64) e ∙ from_le_bytes-to_le_bytes_8 _ (long_bits_small b q) in
    sym (to_z-of_z w64 a p) ∙ ap (cast_signed w64) bits ∙ to_z-of_z w64 b q

-- three lists and what follows, nested to the right
pub nested : (a b c d : List ℕ) → ((a ++ b) ++ c) ++ d ≡ a ++ (b ++ (c ++ d))
nested a b c d = append_assoc (a ++ b) c d ∙ append_assoc a b (c ++ d)

year_fits : (d : CivilDate) → IsInCalendar d → FitsSigned w32 d.year
year_fits d h = omega (arith, signed_arith, h.0)

month_fits : (d : CivilDate) → IsInCalendar d → d.month < 2 ^ 32
month_fits d h = omega (arith, h.1)

day_fits : (d : CivilDate) → IsInCalendar d → d.day < 2 ^ 32
day_fits d h = omega (arith, h.2, days_in_month_bounds d.year d.month)

pub date_reads_back : (a b : CivilDate) → IsInCalendar a → IsInCalendar b → ReadsBack date_bytes a b
date_reads_back a b p q s t e =
    let split = sym (nested (i32_bytes a.year) (u32_bytes a.month) (u32_bytes a.day) s) ∙ e ∙ nested (i32_bytes b.year) (u32_bytes b.month) (u32_bytes b.day) t in
    let year = i32_reads_back a.year b.year (year_fits a p) (year_fits b q) _ _ split in
    let month = u32_reads_back a.month b.month (month_fits a p) (month_fits b q) _ _ year.1 in
    let day = u32_reads_back a.day b.day (day_fits a p) (day_fits b q) s t month.1 in
    (λ i. record { year = year.0 i; month = month.0 i; day = day.0 i }, day.1)
