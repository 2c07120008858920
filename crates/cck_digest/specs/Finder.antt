-- the state of a finder, as its contracts see it
use Rattle.std.specs.Prelude.{take}
use Rattle.cck_digest.specs.TimeMacros.{Seen}
use Rattle.cck_digest.specs.declared.finder.TimeMacroFinder.TheInside.{Inside}

abbrev pub seen_by : Inside → Seen
seen_by finder = record {
  time = finder.found_time;
  date = finder.found_date;
  timestamp = finder.found_timestamp;
  tail = take finder.length finder.tail;
}
