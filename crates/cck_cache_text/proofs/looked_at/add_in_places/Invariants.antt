use Rattle.std.proofs.Common.{◌++◌, length}
use Rattle.cck_cache_text.specs.Sets.{Adds, has_key}
use Rattle.cck_cache_text.proofs.LookedAtLemmas.{ForKey, UnnamedAt}
use Rattle.cck_cache_text.proofs.SetLemmas.{Below}
use Rattle.cck_cache_text.proofs.looked_at.add_in_places.Given as goal

-- the paths in the directories so far were added
abbrev pub invariant-loop-directory : goal.invariant-loop-directory
invariant-loop-directory l = Adds (Below (ForKey (λ directory. UnnamedAt (has_key l.named.names) (directory ++ l.name)) l.named.directories.keys) (length l.yielded)) l.fn.paths l.paths
