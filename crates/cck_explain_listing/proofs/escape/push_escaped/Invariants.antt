use Rattle.std.proofs.Common.{◌≡◌, ◌++◌, length}
use Rattle.cck_path.specs.Escape.{escaped}
use Rattle.cck_explain_listing.proofs.escape.push_escaped.Given as goal

-- the escape of the rest is left
abbrev pub invariant-loop-at : goal.invariant-loop-at
invariant-loop-at l = l.line.items ++ escaped l.rest ≡ l.fn.line.items ++ escaped l.bytes

abbrev pub decreases-loop-at : goal.decreases-loop-at
decreases-loop-at l = length l.rest
