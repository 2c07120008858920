-- The equality test of includes decides whether two are equal.
use Rattle.std.proofs.Common.{◌≡◌, ap}
use Rattle.std.specs.Cmp.Lexicographic.{bytes_decides}
use Rattle.std.specs.Prelude.{Decides}
use Rattle.std.proofs.lemmas.Bool.Decides.{Decides-and, Decides-eqb, Decides-like}
use Rattle.cck_path.proofs.EqualityLemmas.{time_decides}
use Rattle.cck_include.specs.Include.{Include, same_include}

pub include_decides : (a b : Include) → Decides (same_include a b) (a ≡ b)
include_decides a b =
    Decides-like (same_include a b) (λ h. λ i. record { path = h.0 i; digest = h.1.0 i; size = h.1.1.0 i; modified = h.1.1.1.0 i; changed = h.1.1.1.1 i })
    (λ e. (ap (λ (x : Include). x.path) e, (ap (λ (x : Include). x.digest) e, (ap (λ (x : Include). x.size) e, (ap (λ (x : Include). x.modified) e, ap (λ (x : Include). x.changed) e)))))
    (Decides-and _ _ (bytes_decides a.path b.path) (Decides-and _ _ (bytes_decides a.digest b.digest) (Decides-and _ _ (Decides-eqb a.size b.size)
    (Decides-and _ _ (time_decides a.modified b.modified) (time_decides a.changed b.changed)))))
