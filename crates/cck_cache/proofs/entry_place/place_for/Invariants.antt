use Rattle.std.proofs.Common.{◌<◌, IfSome}
use Rattle.cck_cache.proofs.entry_place.place_for.Given as goal

-- what is kept of the places so far is one of them
abbrev pub invariant-loop-place : goal.invariant-loop-place
invariant-loop-place g l = IfSome l.free (λ place. place < 16) × (l.oldest < 16)
