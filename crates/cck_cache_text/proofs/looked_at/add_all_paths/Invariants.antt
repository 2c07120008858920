use Rattle.std.proofs.Common.{length, map}
use Rattle.cck_cache_text.specs.LookedAt.{IsUnnamedPath}
use Rattle.cck_cache_text.specs.Sets.{Adds, has_key}
use Rattle.cck_cache_text.proofs.LookedAtLemmas.{ForKey}
use Rattle.cck_cache_text.proofs.SetLemmas.{Below}
use Rattle.cck_cache_text.proofs.looked_at.add_all_paths.Given as goal

-- the paths of the names so far were added
abbrev pub invariant-loop-name : goal.invariant-loop-name
invariant-loop-name l =
    Adds (Below (ForKey (λ name. IsUnnamedPath (has_key l.named.names) (has_key l.named.directories) (map (λ d. d.items) l.directories) name l.is_quoted) l.names.keys) (length l.yielded)) l.fn.paths l.paths
