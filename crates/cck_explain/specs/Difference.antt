-- how an included file differs from what was recorded of it
use Rattle.std.specs.Prelude.{◌≡◌, ◌⊎◌, ◌≢◌, Bool, true, false, nat_eq, Ok, Result}
use Rattle.std.specs.List.{starts_with}
use Rattle.cck_digest.specs.Digest.{digest_text}
use Rattle.cck_digest.specs.declared.error.FileError.{FileError}
use Rattle.cck_include.specs.Recorded.{has_date, has_timestamp}
use Rattle.cck_path.specs.Bytes.{Bytes}
use Rattle.cck_explain.specs.declared.difference.Difference.{Difference}
use Rattle.cck_explain.specs.declared.difference.Difference.TheVariants.{Missing, Contents, Day, Second, DayOrSecond}

-- a recorded digest begins with the digest of these contents
abbrev pub is_of : (Bytes → Bytes) → Bytes → Bytes → Bool
is_of hash contents recorded = starts_with nat_eq recorded (digest_text hash contents)

-- how these contents differ, by the digest that was recorded
abbrev pub IsChange : (Bytes → Bytes) → Bytes → Bytes → Difference → Type 0
IsChange hash contents recorded Missing = ⊥
IsChange hash contents recorded Contents = is_of hash contents recorded ≡ false
IsChange hash contents recorded Day = (is_of hash contents recorded ≡ true) × (has_date contents ≡ true) × (has_timestamp contents ≡ false)
IsChange hash contents recorded Second = (is_of hash contents recorded ≡ true) × (has_date contents ≡ false) × (has_timestamp contents ≡ true)
IsChange hash contents recorded DayOrSecond = (is_of hash contents recorded ≡ true) × (has_date contents ≡ has_timestamp contents)

-- how a file differs of which this is found; F says that there was a fault
abbrev pub IsDifference : (Bytes → Bytes) → Type 0 → Result Bytes FileError → Bytes → Difference → Type 0
IsDifference hash F found recorded Missing = ((contents : Bytes) → found ≢ Ok contents) ⊎ F
IsDifference hash F found recorded Contents = (contents : Bytes) × (found ≡ Ok contents) × IsChange hash contents recorded Contents
IsDifference hash F found recorded Day = (contents : Bytes) × (found ≡ Ok contents) × IsChange hash contents recorded Day
IsDifference hash F found recorded Second = (contents : Bytes) × (found ≡ Ok contents) × IsChange hash contents recorded Second
IsDifference hash F found recorded DayOrSecond = (contents : Bytes) × (found ≡ Ok contents) × IsChange hash contents recorded DayOrSecond
