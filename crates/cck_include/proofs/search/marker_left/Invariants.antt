use Rattle.std.proofs.Common.{◌≤◌, ◌-◌, length}
use Rattle.memchr.specs.Find.{Nowhere}
use Rattle.cck_include.specs.Searches.{EndsBeforeMarker}
use Rattle.cck_include.proofs.search.marker_left.Given as goal

-- no line's end so far has a marker after it
abbrev pub invariant-loop-from : goal.invariant-loop-from
invariant-loop-from l = record {
  within : l.from ≤ length l.text;
  nowhere : Nowhere (EndsBeforeMarker l.text) 0 l.from;
}

abbrev pub decreases-loop-from : goal.decreases-loop-from
decreases-loop-from l = length l.text - l.from
