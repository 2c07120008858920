use Rattle.std.proofs.Common.{map}
use Rattle.cck_cache_text.specs.Sets.{Adds, has_key}
use Rattle.cck_cache_text.proofs.LookedAtLemmas.{UnnamedIn}
use Rattle.cck_cache_text.proofs.SetLemmas.{Below}
use Rattle.cck_cache_text.proofs.looked_at.add_in_list.Given as goal

-- the paths in the directories so far were added
abbrev pub invariant-loop-directory : goal.invariant-loop-directory
invariant-loop-directory l = Adds (Below (UnnamedIn (has_key l.named.names) (map (λ d. d.items) l.directories) l.name) l.directory-index) l.fn.paths l.paths
