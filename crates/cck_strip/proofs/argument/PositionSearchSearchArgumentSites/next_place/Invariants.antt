use Rattle.std.proofs.Common.{◌≡◌, ◌<◌, ◌≤◌, ℕ, map}
use Rattle.cck_strip.specs.Argument.{argument_site}
use Rattle.cck_strip.proofs.argument.PositionSearchSearchArgumentSites.next_place.Given as goal

-- no site so far
abbrev pub invariant-loop-at : goal.invariant-loop-at
invariant-loop-at g l = (k : ℕ) → k < l.at → l.from ≤ k → argument_site (map g.B.AsSlice.items l.sites.basedirs.now) l.sites.argument.now k ≡ 0
