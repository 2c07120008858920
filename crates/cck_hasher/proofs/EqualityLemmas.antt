-- The test of equality is true exactly if two walks have the same result.
use Rattle.std.proofs.Common.{◌≡◌, ◌&&◌, ℕ, List, Bool, map, nat_eq, Some, refl, ap}
use Rattle.std.proofs.lemmas.Bool.Decides.{Decides-and, Decides-like}
use Rattle.std.specs.Cmp.Lexicographic.{bytes_decides, pointwise}
use Rattle.std.specs.Global.{Vec}
use Rattle.std.specs.Prelude.{Decides, String}
use Rattle.std.specs.declared.alloc.Global.{Global}
use Rattle.cck_path.proofs.EqualityLemmas.{list_decides}
use Rattle.cck_hasher.specs.Digests.{digest_pair}
use Rattle.cck_hasher.specs.WalkResult.{accepted_of}
use Rattle.cck_hasher.specs.contracts.walk.WalkPartialEq.TheImpl as same_walk
use Rattle.cck_hasher.specs.declared.walk.Walk.{Walk}
use Rattle.cck_hasher.specs.declared.walk.Walk.TheVariants.{Accepted, Refused}

abbrev same_file : List ℕ × List ℕ → List ℕ × List ℕ → Bool
same_file a b = pointwise nat_eq a.0 b.0 && pointwise nat_eq a.1 b.1

file_decides : (a b : List ℕ × List ℕ) → Decides (same_file a b) (a ≡ b)
file_decides a b =
    Decides-like (same_file a b) (λ h. λ i. (h.0 i, h.1 i)) (λ e. (ap (λ (f : List ℕ × List ℕ). f.0) e, ap (λ (f : List ℕ × List ℕ). f.1) e))
    (Decides-and _ _ (bytes_decides a.0 b.0) (bytes_decides a.1 b.1))

files_decide : (a b : List (Vec ℕ × String Global)) → Decides (pointwise (λ x y. same_file (digest_pair x) (digest_pair y)) a b) (map digest_pair a ≡ map digest_pair b)
files_decide = list_decides digest_pair same_file file_decides

pub walk_decides : (a b : Walk) → Decides (same_walk.ghosts.eq a b) (accepted_of a ≡ accepted_of b)
walk_decides (Accepted files) (Accepted others) = Decides-like _ (λ e. ap Some e) (λ e. cc) (files_decide files.items others.items)
walk_decides Refused Refused = (λ _. refl, λ _. refl)
walk_decides (Accepted files) Refused = (λ e. absurd cc, λ e. absurd cc)
walk_decides Refused (Accepted others) = (λ e. absurd cc, λ e. absurd cc)
