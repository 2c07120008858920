use Rattle.std.proofs.Common.{IsTrue, length, map}
use Rattle.cck_cache_text.specs.Sets.{Adds, has_key}
use Rattle.cck_cache_text.proofs.AbsentLemmas.{AtName, ListedBelow}
use Rattle.cck_cache_text.proofs.SetLemmas.{Below}
use Rattle.cck_cache_text.proofs.absent.add_names.Given as goal

-- the paths for the names so far were added, of which each system header is listed
abbrev pub invariant-loop-name : goal.invariant-loop-name
invariant-loop-name l = record {
  listed : ListedBelow (has_key l.named.systems) (map (λ d. d.items) l.directories) (map (λ k. k.items) l.named.names.keys) (length l.yielded);
  added : Adds (Below (AtName (has_key l.named.directories) (has_key l.named.names) (λ rest. IsTrue (has_key l.quoted rest)) (map (λ d. d.items) l.directories) (map (λ k. k.items) l.named.names.keys)) (length l.yielded)) l.fn.paths l.paths;
}
