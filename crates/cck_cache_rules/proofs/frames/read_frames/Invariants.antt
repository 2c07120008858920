use Rattle.std.proofs.Common.{◌≡◌, ◌++◌, length, map}
use Rattle.std.specs.List.{flat_map}
use Rattle.cck_digest.specs.Frames.{frame}
use Rattle.cck_cache_rules.proofs.frames.read_frames.Given as goal

-- the frames so far, and what is left
abbrev pub invariant-loop-rest : goal.invariant-loop-rest
invariant-loop-rest l = l.bytes ≡ flat_map frame (map (λ p. p.now) l.all.items) ++ l.rest

abbrev pub decreases-loop-rest : goal.decreases-loop-rest
decreases-loop-rest l = length l.rest
