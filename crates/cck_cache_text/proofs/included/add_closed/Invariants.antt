use Rattle.cck_cache_text.specs.Sets.{Adds}
use Rattle.cck_cache_text.proofs.IncludedLemmas.{ClosedAt}
use Rattle.cck_cache_text.proofs.SetLemmas.{Below}
use Rattle.cck_cache_text.proofs.included.add_closed.Given as goal

-- the names before the places so far were added
abbrev pub invariant-loop-place : goal.invariant-loop-place
invariant-loop-place l = Adds (Below (ClosedAt l.close l.text) l.place) l.fn.names l.names
