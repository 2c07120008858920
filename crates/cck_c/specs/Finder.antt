-- the state of a finder, as a caller stores it
use Rattle.std.specs.Prelude.{◌≤◌, not, nat_eq, take}
use Rattle.cck_digest.specs.TimeMacros.{Seen}
use Rattle.cck_c.specs.declared.finder.Finder.{Finder}

-- its value, whatever the struct holds: a flag is set if it is not 0, and a length above 12 is 12
abbrev pub seen_in : Finder → Seen
seen_in finder = record {
  time = not (nat_eq finder.found_time 0);
  date = not (nat_eq finder.found_date 0);
  timestamp = not (nat_eq finder.found_timestamp 0);
  tail = take finder.length finder.tail;
}

-- the one struct of its value: a flag is 0 or 1, and the tail is as long as the length says
pub record IsStored (finder : Finder) : Type 0 where
  pub time : finder.found_time ≤ 1
  pub date : finder.found_date ≤ 1
  pub timestamp : finder.found_timestamp ≤ 1
  pub within : finder.length ≤ 12
