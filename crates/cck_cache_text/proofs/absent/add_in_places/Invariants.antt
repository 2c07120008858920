use Rattle.std.proofs.Common.{length, map}
use Rattle.cck_cache_text.specs.Sets.{Adds, has_key}
use Rattle.cck_cache_text.proofs.AbsentLemmas.{InPlace}
use Rattle.cck_cache_text.proofs.SetLemmas.{Below}
use Rattle.cck_cache_text.proofs.absent.add_in_places.Given as goal

-- the paths in the directories so far were added
abbrev pub invariant-loop-directory : goal.invariant-loop-directory
invariant-loop-directory l = Adds (Below (InPlace (has_key l.named.names) (map (λ k. k.items) l.named.directories.keys) l.rest) (length l.yielded)) l.fn.paths l.paths
