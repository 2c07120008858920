use Rattle.cck_cache_text.specs.Sets.{Adds}
use Rattle.cck_cache_text.proofs.LeftLemmas.{LeftAt}
use Rattle.cck_cache_text.proofs.SetLemmas.{Below}
use Rattle.cck_cache_text.proofs.left.add_left.Given as goal

-- the directories before the slashes so far were added
abbrev pub invariant-loop-place : goal.invariant-loop-place
invariant-loop-place l = Adds (Below (LeftAt l.path) l.place) l.fn.left l.left
