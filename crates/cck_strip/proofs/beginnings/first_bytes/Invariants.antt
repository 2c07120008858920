use Rattle.std.proofs.Common.{◌≡◌, length, map, take}
use Rattle.cck_strip.specs.Beginnings.{FirstsMarked}
use Rattle.cck_strip.proofs.beginnings.first_bytes.Given as goal

abbrev pub invariant-loop-basedir : goal.invariant-loop-basedir
invariant-loop-basedir l = record {
  size : length l.is_first ≡ 256;
  marked : FirstsMarked (map (λ b. b.items) (take l.basedir-index l.basedirs)) l.is_first;
}
