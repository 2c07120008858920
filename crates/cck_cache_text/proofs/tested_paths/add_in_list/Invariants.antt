use Rattle.std.proofs.Common.{map}
use Rattle.cck_cache_text.specs.Sets.{Adds}
use Rattle.cck_cache_text.proofs.SetLemmas.{Below}
use Rattle.cck_cache_text.proofs.TestedLemmas.{InList}
use Rattle.cck_cache_text.proofs.tested_paths.add_in_list.Given as goal

-- the paths in the directories so far were added
abbrev pub invariant-loop-directory : goal.invariant-loop-directory
invariant-loop-directory l = Adds (Below (InList (map (λ d. d.items) l.directories) l.name) l.directory-index) l.fn.paths l.paths
