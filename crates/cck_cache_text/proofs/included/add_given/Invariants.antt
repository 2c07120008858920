use Rattle.std.proofs.Common.{map}
use Rattle.cck_cache_text.specs.Included.{IsGivenAt}
use Rattle.cck_cache_text.specs.Sets.{Adds}
use Rattle.cck_cache_text.proofs.SetLemmas.{Below}
use Rattle.cck_cache_text.proofs.included.add_given.Given as goal

-- the names of the arguments so far were added
abbrev pub invariant-loop-place : goal.invariant-loop-place
invariant-loop-place l = Adds (Below (IsGivenAt (map (λ a. a.items) l.arguments)) l.place) l.fn.names l.names
