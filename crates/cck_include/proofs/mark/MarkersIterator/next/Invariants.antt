use Rattle.std.proofs.Common.{◌≤◌, length, []}
use Rattle.cck_include.specs.Markers.{Yields}
use Rattle.cck_include.specs.Searches.{AreSearched}
use Rattle.cck_include.proofs.mark.MarkersIterator.next.Given as goal

-- what was passed so far has no mark
abbrev pub invariant-loop-item : goal.invariant-loop-item
invariant-loop-item l = record {
  nothing : Yields (record { starts_line = l.initial.self-inside.starts_line; text = l.initial.self-inside.rest.now }) [] (record { starts_line = l.self-inside.starts_line; text = l.self-inside.rest.now });
  known : AreSearched l.self-inside.searches l.self-inside.rest.now;
  shorter : length l.self-inside.rest.now ≤ length l.initial.self-inside.rest.now;
}

abbrev pub decreases-loop-item : goal.decreases-loop-item
decreases-loop-item l = length l.self-inside.rest.now
