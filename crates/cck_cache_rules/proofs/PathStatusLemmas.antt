-- Statuses of paths are read in one way.
use Rattle.std.proofs.Common.{◌≡◌, ℕ, List, ◌++◌, ◌<◌, ◌^◌, length, get_or, take, drop, Some, None, ◌≤◌, codes, refl, sym, ap, ◌∙◌, subst, append_assoc, arith, ℤ, FitsSigned}
use Rattle.std.specs.Int.{cast_signed, from_le_bytes, to_le_bytes, w32, w64}
use Rattle.std.proofs.Math.Facts.{sfits_to_z}
use Rattle.std.proofs.lemmas.Int.{of_z-to_z}
use Rattle.std.proofs.lemmas.List.{append_cancel_left, length-append, length-take, take-append-drop}
use Rattle.std.proofs.lemmas.Nat.{from_le_bytes-to_le_bytes_4, le_bytes_4}
use Rattle.cck_digest.specs.Frames.{length_bytes}
use Rattle.cck_digest.proofs.FrameLemmas.{length_bytes_are_bytes, length_reads_back}
use Rattle.cck_digest.proofs.ReadsBack as digest
use Rattle.cck_digest.proofs.ReadsBack.{bytes_read_back}
use Rattle.cck_include.specs.TimePart.{i64_bytes, u32_bytes}
use Rattle.cck_include.proofs.NumberLemmas.{i64_back}
use Rattle.cck_path.specs.Timestamp.{Moment}
use Rattle.cck_cache_rules.specs.PathStatus.{IsStatus, IsTime, Status, status_bytes, time_bytes}
use Rattle.cck_cache_rules.specs.Reading.{ReadsBackOf}
use Rattle.cck_cache_rules.proofs.ReadingLemmas.{front_fits, no_number}

-- seconds and nanoseconds that their bytes hold
record IsHeld (time : Moment) : Type 0 where
  pub seconds : FitsSigned w64 time.seconds
  pub nanoseconds : time.nanoseconds < 2 ^ 32

held : (time : Moment) → IsTime time → IsHeld time
held time is = let below = is.nanoseconds in record { seconds = is.seconds; nanoseconds = omega arith }

length-i64_bytes : (n : ℤ) → length (i64_bytes n) ≡ 8
unfolding i64_bytes
length-i64_bytes n = refl

length-u32_bytes : (n : ℕ) → length (u32_bytes n) ≡ 4
unfolding u32_bytes
length-u32_bytes n = refl

u32_back : (a b : ℕ) → a < 2 ^ 32 → b < 2 ^ 32 → u32_bytes a ≡ u32_bytes b → a ≡ b
unfolding u32_bytes
u32_back a b p q e = sym (from_le_bytes-to_le_bytes_4 a p) ∙ ap (from_le_bytes w32) e ∙ from_le_bytes-to_le_bytes_4 b q

-- a number of 4 bytes before others
pub word_read : (bytes front rest : List ℕ) (n : ℕ) → ((i : ℕ) → get_or bytes i 0 < 256) → front ≡ take 4 bytes → rest ≡ drop 4 bytes → 4 ≤ length bytes → n ≡ from_le_bytes w32 front → bytes ≡ u32_bytes n ++ rest
unfolding u32_bytes
word_read bytes front rest n fits front_is rest_is enough read =
    let long : length front ≡ 4 = omega (arith, ap (length {A = ℕ}) front_is, length-take 4 bytes) in
    let each : (i : ℕ) → get_or front i 0 < 256 = rw front_is (front_fits 4 bytes fits) in
    sym (take-append-drop 4 bytes) ∙ ((λ i. sym front_is i ++ sym rest_is i) ∙ ap (λ (f : List ℕ). f ++ rest) (sym (le_bytes_4 front n long each read)))

time_reads_back : (a b : Moment) → IsHeld a → IsHeld b → digest.ReadsBack time_bytes a b
time_reads_back a b p q s t e =
    let split = sym (append_assoc (i64_bytes a.seconds) (u32_bytes a.nanoseconds) s) ∙ (e ∙ append_assoc (i64_bytes b.seconds) (u32_bytes b.nanoseconds) t) in
    let first = bytes_read_back (i64_bytes a.seconds) (i64_bytes b.seconds) _ _ (length-i64_bytes a.seconds ∙ sym (length-i64_bytes b.seconds)) split in
    let second = bytes_read_back (u32_bytes a.nanoseconds) (u32_bytes b.nanoseconds) s t (length-u32_bytes a.nanoseconds ∙ sym (length-u32_bytes b.nanoseconds)) first.1 in
    let seconds = i64_back a.seconds b.seconds p.seconds q.seconds first.0 in
    let nanoseconds = u32_back a.nanoseconds b.nanoseconds p.nanoseconds q.nanoseconds second.0 in
    (λ i. record { seconds = seconds i; nanoseconds = nanoseconds i }, second.1)

length-time_bytes : (time : Moment) → length (time_bytes time) ≡ 12
length-time_bytes time = omega (arith, length-append (i64_bytes time.seconds) (u32_bytes time.nanoseconds), length-i64_bytes time.seconds, length-u32_bytes time.nanoseconds)

-- fewer bytes than a time has
no_time : (time : Moment) (rest bytes : List ℕ) → length bytes < 12 → time_bytes time ++ rest ≡ bytes → ⊥
no_time time rest bytes short same = absurd (omega (arith, ap length same, length-append (time_bytes time) rest, length-time_bytes time))

-- the bytes of a number of 64 bits are those of what it is with a sign
signed_bytes : (n : ℕ) → n < 2 ^ 64 → i64_bytes (cast_signed w64 n) ≡ length_bytes n
unfolding i64_bytes
signed_bytes n fits = ap (to_le_bytes w64) (of_z-to_z w64 n fits) ∙ sym (length_bytes_are_bytes n fits)

-- the time of two numbers, and its bytes
abbrev pub time_of_numbers : ℕ × ℕ → Moment
time_of_numbers t = record { seconds = cast_signed w64 t.0; nanoseconds = t.1 }

time_is_held : (t : ℕ × ℕ) → t.0 < 2 ^ 64 → t.1 < 2 ^ 32 → IsHeld (time_of_numbers t)
time_is_held t seconds_fit nanoseconds_fit = record { seconds = sfits_to_z (record { fits = seconds_fit }); nanoseconds = nanoseconds_fit }

bytes_of_numbers : (t : ℕ × ℕ) (rest : List ℕ) → t.0 < 2 ^ 64 → time_bytes (time_of_numbers t) ++ rest ≡ length_bytes t.0 ++ (u32_bytes t.1 ++ rest)
bytes_of_numbers t rest seconds_fit =
    append_assoc (i64_bytes (cast_signed w64 t.0)) (u32_bytes t.1) rest ∙ ap (λ (b : List ℕ). b ++ (u32_bytes t.1 ++ rest)) (signed_bytes t.0 seconds_fit)

-- the bytes of a status from its first time, from its inode and from its device on
abbrev from_modified : Status → List ℕ
from_modified status = time_bytes status.modified ++ (time_bytes status.changed ++ status.path)

abbrev from_inode : Status → List ℕ
from_inode status = length_bytes status.inode ++ from_modified status

abbrev from_device : Status → List ℕ
from_device status = length_bytes status.device ++ from_inode status

-- no two statuses have the same bytes
same_status : (a b : Status) → IsHeld a.modified → IsHeld b.modified → IsHeld a.changed → IsHeld b.changed → status_bytes a ≡ status_bytes b → a ≡ b
same_status a b p q r s same =
    let after_word = append_cancel_left (codes "status ") (from_device a) (from_device b) same in
    let device = length_reads_back a.device b.device _ _ after_word in
    let inode = length_reads_back a.inode b.inode _ _ device.1 in
    let modified = time_reads_back a.modified b.modified p q _ _ inode.1 in
    let changed = time_reads_back a.changed b.changed r s _ _ modified.1 in
    λ i. record { path = changed.1 i; device = device.0 i; inode = inode.0 i; modified = modified.0 i; changed = changed.0 i }

pub statuses_differ : (a b : Status) → IsStatus a → IsStatus b → status_bytes a ≡ status_bytes b → a ≡ b
statuses_differ a b p q same = same_status a b (held a.modified p.modified) (held b.modified q.modified) (held a.changed p.changed) (held b.changed q.changed) same

module _ (bytes rest : List ℕ) (is : codes "status " ++ rest ≡ bytes) where
  -- what follows the word of a status
  after_word : (status : Status) → status_bytes status ≡ bytes → from_device status ≡ rest
  after_word status same = append_cancel_left (codes "status ") (from_device status) rest (same ∙ sym is)

  pub no_device : length rest < 8 → ReadsBackOf IsStatus status_bytes bytes None
  no_device short status right same = no_number status.device _ rest short (after_word status same)

  module _ (device : ℕ) (later : List ℕ) (device_is : rest ≡ length_bytes device ++ later) where
    -- what follows the device
    after_device : (status : Status) → status_bytes status ≡ bytes → from_inode status ≡ later
    after_device status same = (length_reads_back status.device device _ later (after_word status same ∙ device_is)).1

    pub no_inode : length later < 8 → ReadsBackOf IsStatus status_bytes bytes None
    no_inode short status right same = no_number status.inode _ later short (after_device status same)

    module _ (inode : ℕ) (times : List ℕ) (inode_is : later ≡ length_bytes inode ++ times) where
      -- what follows the inode
      after_inode : (status : Status) → status_bytes status ≡ bytes → from_modified status ≡ times
      after_inode status same = (length_reads_back status.inode inode _ times (after_device status same ∙ inode_is)).1

      pub no_modified : length times < 12 → ReadsBackOf IsStatus status_bytes bytes None
      no_modified short status right same = no_time status.modified _ times short (after_inode status same)

      module _ (modified : ℕ × ℕ) (last : List ℕ) (modified_is : times ≡ length_bytes modified.0 ++ (u32_bytes modified.1 ++ last)) (seconds_fit : modified.0 < 2 ^ 64) (nanoseconds_fit : modified.1 < 2 ^ 32) where
        first_time : time_bytes (time_of_numbers modified) ++ last ≡ times
        first_time = bytes_of_numbers modified last seconds_fit ∙ sym modified_is

        -- what follows the first time
        after_modified : (status : Status) → IsStatus status → status_bytes status ≡ bytes → time_bytes status.changed ++ status.path ≡ last
        after_modified status right same =
            (time_reads_back status.modified (time_of_numbers modified) (held status.modified right.modified) (time_is_held modified seconds_fit nanoseconds_fit) _ last (after_inode status same ∙ sym first_time)).1

        pub no_changed : length last < 12 → ReadsBackOf IsStatus status_bytes bytes None
        no_changed short status right same = no_time status.changed _ last short (after_modified status right same)

        module _ (changed : ℕ × ℕ) (path : List ℕ) (changed_is : last ≡ length_bytes changed.0 ++ (u32_bytes changed.1 ++ path)) (changed_seconds_fit : changed.0 < 2 ^ 64) (changed_nanoseconds_fit : changed.1 < 2 ^ 32) where
          abbrev found : Status
          found = record { path = path; device = device; inode = inode; modified = time_of_numbers modified; changed = time_of_numbers changed }

          has : status_bytes found ≡ bytes
          has =
              ap (λ (r : List ℕ). codes "status " ++ (length_bytes device ++ (length_bytes inode ++ (time_bytes (time_of_numbers modified) ++ r)))) (bytes_of_numbers changed path changed_seconds_fit ∙ sym changed_is)
              ∙ (ap (λ (r : List ℕ). codes "status " ++ (length_bytes device ++ (length_bytes inode ++ r))) first_time
              ∙ (ap (λ (r : List ℕ). codes "status " ++ (length_bytes device ++ r)) (sym inode_is) ∙ (ap (λ (r : List ℕ). codes "status " ++ r) (sym device_is) ∙ is)))

          is_found : (status : Status) → IsStatus status → status_bytes status ≡ bytes → status ≡ found
          is_found status right same =
              same_status status found (held status.modified right.modified) (time_is_held modified seconds_fit nanoseconds_fit) (held status.changed right.changed) (time_is_held changed changed_seconds_fit changed_nanoseconds_fit)
              (same ∙ sym has)

          pub status_found : modified.1 < 1000000000 → changed.1 < 1000000000 → (read : Status) → read ≡ found → ReadsBackOf IsStatus status_bytes bytes (Some read)
          status_found modified_below changed_below read read_is =
              let first = time_is_held modified seconds_fit nanoseconds_fit in let second = time_is_held changed changed_seconds_fit changed_nanoseconds_fit in
              subst (λ (s : Status). ReadsBackOf IsStatus status_bytes bytes (Some s)) (sym read_is)
              (record { modified = record { seconds = first.seconds; nanoseconds = modified_below }; changed = record { seconds = second.seconds; nanoseconds = changed_below } }, has, is_found)

          -- nanoseconds that are no part of a second
          pub modified_late : 1000000000 ≤ modified.1 → ReadsBackOf IsStatus status_bytes bytes None
          modified_late above status right same =
              let below = (right.modified).nanoseconds in
              let nanoseconds_are : status.modified.nanoseconds ≡ modified.1 = ap (λ (s : Status). s.modified.nanoseconds) (is_found status right same) in
              absurd (omega arith)

          pub changed_late : 1000000000 ≤ changed.1 → ReadsBackOf IsStatus status_bytes bytes None
          changed_late above status right same =
              let below = (right.changed).nanoseconds in
              let nanoseconds_are : status.changed.nanoseconds ≡ changed.1 = ap (λ (s : Status). s.changed.nanoseconds) (is_found status right same) in
              absurd (omega arith)
