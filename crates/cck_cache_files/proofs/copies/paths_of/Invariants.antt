use Rattle.std.proofs.Common.{◌≡◌, ℕ, [], get_or, length, map}
use Rattle.std.specs.BTreeSet.{BTreeSet}
use Rattle.std.specs.Global.{Vec}
use Rattle.cck_cache_text.specs.Sets.{Adds}
use Rattle.cck_cache_text.proofs.SetLemmas.{Below}
use Rattle.cck_cache_files.specs.Snapshot.{named_path}
use Rattle.cck_cache_files.proofs.copies.paths_of.Given as goal

-- the paths of the names so far
abbrev pub invariant-loop-name : goal.invariant-loop-name
invariant-loop-name l =
    (none : BTreeSet (Vec ℕ)) × (none.keys ≡ []) × Adds (Below (λ k p. p ≡ named_path l.directory (get_or (map (λ (n : Vec ℕ). n.items) l.names.keys) k [])) (length l.yielded)) none l.paths
