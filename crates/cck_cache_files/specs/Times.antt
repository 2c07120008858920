-- the times of real files
use Rattle.std.specs.Prelude.{pos, ◌<ℤ◌, ◌<◌, ◌≡◌, ◌⊎◌, Bool, true, false, Option, Some, None}
use Rattle.std.specs.Time.{system_time_nanos}
use Rattle.std.specs.declared.time.SystemTime.{SystemTime}
use Rattle.cck_path.specs.Timestamp.{Moment, nanos_of, same_moment}

-- A time is before this one: by the seconds, or by the nanoseconds where the seconds are the same. One without nanoseconds is before by the seconds
-- alone, since some file systems keep whole seconds.
abbrev pub IsEarlier : Moment → Moment → Type 0
IsEarlier time since =
    (time.seconds <ℤ since.seconds) ⊎ ((time.seconds ≡ since.seconds) × (0 < time.nanoseconds) × (time.nanoseconds < since.nanoseconds))

-- a time is known, and before this one
abbrev pub IsTimeBefore : Option Moment → Moment → Type 0
IsTimeBefore None since = ⊥
IsTimeBefore (Some time) since = IsEarlier time since

-- two times are known, and are one
abbrev pub is_one_time : Option Moment → Option Moment → Bool
is_one_time None other = false
is_one_time (Some time) None = false
is_one_time (Some time) (Some other) = same_moment time other

-- What is at a path was not changed at this time or later, by when its contents and its status last were. A name that comes or goes in a directory
-- changes both times of the directory to one, and only a change of the directory itself, as to another name, changes that of the status alone.
abbrev pub IsSettled : Bool → Option Moment → Option Moment → Moment → Type 0
IsSettled is_directory modified changed since =
    (IsTimeBefore modified since × IsTimeBefore changed since) ⊎ ((is_directory ≡ true) × (is_one_time modified changed ≡ true))

-- the system's time for a time, and none before 1970
abbrev pub IsSystemTime : Moment → Option SystemTime → Type 0
IsSystemTime time None = time.seconds <ℤ pos 0
IsSystemTime time (Some known) = pos (system_time_nanos known) ≡ nanos_of time
