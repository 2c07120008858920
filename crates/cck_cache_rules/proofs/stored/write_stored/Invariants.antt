use Rattle.std.proofs.Common.{◌≡◌, take, map}
use Rattle.std.specs.List.{flat_map}
use Rattle.cck_digest.specs.Frames.{frame}
use Rattle.cck_cache_rules.proofs.stored.write_stored.Given as goal

-- the frames so far
abbrev pub invariant-loop-part : goal.invariant-loop-part
invariant-loop-part l = l.frames.items ≡ flat_map frame (map (λ p. p.now) (take l.part-index l.parts))
