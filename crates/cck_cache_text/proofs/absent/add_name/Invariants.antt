use Rattle.std.proofs.Common.{ℕ, ◌<◌, ◌↔◌, IsTrue, map}
use Rattle.cck_cache_text.specs.Absent.{IsBeforeDirectory, IsInDirectory}
use Rattle.cck_cache_text.specs.Sets.{Adds, has_key}
use Rattle.cck_cache_text.proofs.SetLemmas.{Below}
use Rattle.cck_cache_text.proofs.absent.add_name.Given as goal

-- the paths before the directories so far were added
abbrev pub invariant-loop-place : goal.invariant-loop-place
invariant-loop-place l = record {
  found : IsTrue l.is_found ↔ ((place : ℕ) × (place < l.place) × IsInDirectory (map (λ d. d.items) l.directories) l.name place);
  added : Adds (Below (IsBeforeDirectory (has_key l.named.directories) (has_key l.named.names) (λ rest. IsTrue (has_key l.quoted rest)) (map (λ d. d.items) l.directories) l.name) l.place) l.initial.paths l.paths;
}
