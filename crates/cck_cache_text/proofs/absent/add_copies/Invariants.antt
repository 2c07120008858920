use Rattle.std.proofs.Common.{◌≡◌, [], get_or, map}
use Rattle.cck_cache_text.specs.Sets.{Adds}
use Rattle.cck_cache_text.proofs.SetLemmas.{Below}
use Rattle.cck_cache_text.proofs.absent.add_copies.Given as goal

-- the paths so far were added
abbrev pub invariant-loop-path : goal.invariant-loop-path
invariant-loop-path l = Adds (Below (λ k q. q ≡ get_or (map (λ path. path.items) l.all) k []) l.path-index) l.fn.paths l.paths
