-- Files that show the time, at written times in a zone one hour east.
use Rattle.std.proofs.Common.{◌≡◌, true, false, List, ℕ, ℤ, pos, Option, Some, None, codes, refl, sym, ap, ◌∙◌}
use Rattle.std.specs.Ordering.{int_eq}
use Rattle.cck_digest.specs.Digest.{digest_text}
use Rattle.cck_files.specs.FileMap.{FileNode}
use Rattle.cck_include.specs.Recorded.{has_date, has_time, has_timestamp, recorded}
use Rattle.cck_include.specs.Setting.{Setting}
use Rattle.cck_path.specs.Bytes.{Bytes}
use Rattle.cck_path.specs.Timestamp.{Moment, nanos_of}
use Rattle.cck_path.specs.Variables.{Variable}
use Rattle.cck_include.proofs.PartLemmas.{day_is_determined, second_is_determined}
use Rattle.cck_include.specs.TimePart.{date_part, local_day, local_second, timestamp_part, time_part}
use Rattle.cck_include.specs.declared.config.PreprocessorCacheModeConfig.{PreprocessorCacheModeConfig}
use Rattle.jiff.specs.Types.{Fixed, Offset, TimeZone}
use Rattle.jiff.specs.Words.{offset_at}

abbrev moment_at : ℕ → ℕ → Moment
moment_at seconds nanoseconds = record { seconds = pos seconds; nanoseconds = nanoseconds }

-- two numbers that a test distinguishes
apart : (a b : ℤ) → int_eq a b ≡ false → int_eq a a ≡ true → a ≡ b → ⊥
apart a b differ same e =
    let both : true ≡ false = sym same ∙ ap (int_eq a) e ∙ differ in
    cc

-- ---- contents that show no time, and the time of day

module _ (s : Setting) (counts : s.config.ignore_time_macros ≡ false) (n : FileNode) where
  plain_recorded : n.contents ≡ codes "int y1;\n" → recorded s n ≡ Some (digest_text s.hash (codes "int y1;\n"))
  unfolding recorded has_time has_date has_timestamp
  plain_recorded is = rw (counts, is) refl

  pub time_of_day_not_recorded : n.contents ≡ codes "__TIME__" → recorded s n ≡ None
  unfolding recorded has_time
  time_of_day_not_recorded is = rw (counts, is) refl

-- ---- dates and timestamps

module _ (offset : Offset) (hour : offset.seconds ≡ pos 3600) where
  abbrev zone : TimeZone
  zone = Fixed offset

  early_day : local_day zone (nanos_of (moment_at 5 0)) ≡ pos 0
  unfolding offset_at
  early_day = rw hour refl

  late_day : local_day zone (nanos_of (moment_at 82799 0)) ≡ pos 0
  unfolding offset_at
  late_day = rw hour refl

  next_day : local_day zone (nanos_of (moment_at 82800 0)) ≡ pos 1
  unfolding offset_at
  next_day = rw hour refl

  first_second : local_second zone (nanos_of (moment_at 1 0)) ≡ pos 3601
  unfolding offset_at
  first_second = rw hour refl

  within_first_second : local_second zone (nanos_of (moment_at 1 500_000_000)) ≡ pos 3601
  unfolding offset_at
  within_first_second = rw hour refl

  next_second : local_second zone (nanos_of (moment_at 2 0)) ≡ pos 3602
  unfolding offset_at
  next_second = rw hour refl

  module _ (hash : Bytes → Bytes) (config : PreprocessorCacheModeConfig) (counts : config.ignore_time_macros ≡ false) (variables : List Variable) (n : FileNode) where
    abbrev at : Moment → Setting
    at moment = record { hash = hash; config = config; moment = moment; zone = zone; variables = variables }

    -- on one day a date is recorded alike
    same_day_recorded : n.contents ≡ codes "__DATE__" → recorded (at (moment_at 5 0)) n ≡ recorded (at (moment_at 82799 0)) n
    unfolding recorded has_time has_date has_timestamp time_part date_part timestamp_part
    same_day_recorded is = rw (counts, is, early_day, late_day) refl

    -- within one second a timestamp is
    same_second_recorded : (m : FileNode) (moment : Moment) → n.contents ≡ codes "__TIMESTAMP__" → m.contents ≡ codes "__TIMESTAMP__"
        → n.modified ≡ Some (moment_at 1 0) → m.modified ≡ Some (moment_at 1 500_000_000) → recorded (at moment) n ≡ recorded (at moment) m
    unfolding recorded has_time has_date has_timestamp time_part date_part timestamp_part
    same_second_recorded m moment is same_text modified later = rw (counts, is, same_text, modified, later, first_second, within_first_second) refl

  -- and no two days, and no two seconds, have the same part
  days_apart : (v : List Variable) (m : Option Moment) (part : Bytes) → time_part true false m (moment_at 82799 0) zone v ≡ Some part → time_part true false m (moment_at 82800 0) zone v ≡ Some part → ⊥
  days_apart v m part p q =
      let days = (day_is_determined zone false m m (moment_at 82799 0) (moment_at 82800 0) v v part p q).0 in
      apart (pos 0) (pos 1) refl refl (sym late_day ∙ days ∙ next_day)

  seconds_apart : (v : List Variable) (a : Moment) (part : Bytes) → time_part false true (Some (moment_at 1 0)) a zone v ≡ Some part → time_part false true (Some (moment_at 2 0)) a zone v ≡ Some part → ⊥
  seconds_apart v a part p q =
      let seconds = second_is_determined zone false (Some (moment_at 1 0)) (Some (moment_at 2 0)) a a v v part p q in
      apart (pos 3601) (pos 3602) refl refl (sym first_second ∙ seconds ∙ next_second)
