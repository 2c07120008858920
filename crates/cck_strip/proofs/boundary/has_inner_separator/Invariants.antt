use Rattle.std.proofs.Common.{◌≡◌, false, map, take}
use Rattle.cck_strip.specs.Text.{has_inner_separator}
use Rattle.cck_strip.proofs.boundary.has_inner_separator.Given as goal

abbrev pub invariant-loop-basedir : goal.invariant-loop-basedir
invariant-loop-basedir l = has_inner_separator (map (λ b. b.items) (take l.basedir-index l.basedirs)) ≡ false
