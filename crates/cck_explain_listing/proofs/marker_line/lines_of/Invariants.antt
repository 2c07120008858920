use Rattle.std.proofs.Common.{◌≡◌, take}
use Rattle.std.specs.List.{flat_map}
use Rattle.cck_explain_listing.specs.MarkerListing.{mark_line}
use Rattle.cck_explain_listing.proofs.marker_line.lines_of.Given as goal

-- the lines of the marks so far
abbrev pub invariant-loop-mark : goal.invariant-loop-mark
invariant-loop-mark l = l.lines.items ≡ flat_map (mark_line l.input l.cwd) (take l.mark-index l.placed)
