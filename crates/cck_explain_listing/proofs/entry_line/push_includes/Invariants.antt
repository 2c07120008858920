use Rattle.std.proofs.Common.{◌≡◌, ◌++◌, take}
use Rattle.std.specs.List.{flat_map}
use Rattle.cck_explain_listing.specs.EntryListing.{include_line}
use Rattle.cck_include.specs.Include.{includes_in}
use Rattle.cck_explain_listing.proofs.entry_line.push_includes.Given as goal

-- the lines of the includes so far
abbrev pub invariant-loop-include : goal.invariant-loop-include
invariant-loop-include l = l.lines.items ≡ l.fn.lines.items ++ flat_map include_line (includes_in (take l.include-index l.includes))
