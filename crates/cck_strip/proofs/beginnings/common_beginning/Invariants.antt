use Rattle.std.proofs.Common.{map, take}
use Rattle.cck_strip.proofs.CommonLemmas.{Common}
use Rattle.cck_strip.proofs.beginnings.common_beginning.Given as goal

abbrev pub invariant-loop-basedir : goal.invariant-loop-basedir
invariant-loop-basedir l = Common (map (λ b. b.items) (take l.basedir-index l.basedirs)) l.common
