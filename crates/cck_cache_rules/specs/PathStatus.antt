-- what the system said of a file or a directory, and its bytes in an entry file
use Rattle.std.specs.Prelude.{ℕ, List, All, map, ◌++◌, codes, FitsSigned}
use Rattle.std.specs.Int.{w64}
use Rattle.cck_digest.specs.Frames.{length_bytes}
use Rattle.cck_include.specs.TimePart.{i64_bytes, u32_bytes}
use Rattle.cck_path.specs.Timestamp.{IsMoment, Moment}
use Rattle.cck_cache_rules.specs.declared.path_status.PathStatus.{PathStatus}
use Rattle.cck_cache_rules.specs.declared.path_status.StatusRef.{StatusRef}

pub record Status : Type 0 where
  pub path : List ℕ
  pub device : ℕ
  pub inode : ℕ
  pub modified : Moment
  pub changed : Moment

abbrev pub status_of : PathStatus → Status
status_of s = record { path = s.path.items; device = s.device; inode = s.inode; modified = s.modified; changed = s.changed }

abbrev pub status_lent : StatusRef → Status
status_lent s = record { path = s.path.now; device = s.device; inode = s.inode; modified = s.modified; changed = s.changed }

abbrev pub statuses_of : List PathStatus → List Status
statuses_of statuses = map status_of statuses

-- a time that a program has: 64 bits of seconds, and nanoseconds below a second
pub record IsTime (time : Moment) : Type 0 where
  pub seconds : FitsSigned w64 time.seconds
  pub nanoseconds : IsMoment time

-- a status that a program has
pub record IsStatus (status : Status) : Type 0 where
  pub modified : IsTime status.modified
  pub changed : IsTime status.changed

abbrev pub AreStatuses : List Status → Type 0
AreStatuses statuses = All IsStatus statuses

-- the seconds in 8 bytes and the nanoseconds in 4
abbrev pub time_bytes : Moment → List ℕ
time_bytes time = i64_bytes time.seconds ++ u32_bytes time.nanoseconds

-- a word, the device and the inode in 8 bytes each, both times, and the path
abbrev pub status_bytes : Status → List ℕ
status_bytes status =
    codes "status " ++ (length_bytes status.device ++ (length_bytes status.inode ++ (time_bytes status.modified ++ (time_bytes status.changed ++ status.path))))
