use Rattle.std.proofs.Common.{◌≡◌, ◌++◌, take}
use Rattle.cck_explain_listing.specs.CutListing.{cut_lines}
use Rattle.cck_explain_listing.proofs.cut_line.push_cuts.Given as goal

-- the lines of the cuts so far
abbrev pub invariant-loop-cut : goal.invariant-loop-cut
invariant-loop-cut l = l.lines.items ≡ l.fn.lines.items ++ cut_lines l.name l.text (take l.cut-index l.cuts)
