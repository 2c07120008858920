-- The test of equality of outputs is true exactly if they are equal.
use Rattle.std.proofs.Common.{◌≡◌, Bool, ◌&&◌, nat_eq, ap}
use Rattle.std.proofs.lemmas.Bool.Decides.{Decides-and, Decides-like}
use Rattle.std.specs.Bool.{beq}
use Rattle.std.specs.Cmp.{booleans_Decides}
use Rattle.std.specs.Cmp.Lexicographic.{bytes_decides, pointwise}
use Rattle.std.specs.Prelude.{Decides}
use Rattle.cck_compiler.specs.Arguments.{Output}

abbrev pub same_output : Output → Output → Bool
same_output a b = pointwise nat_eq a.name b.name && (pointwise nat_eq a.path b.path && beq a.optional b.optional)

pub output_decides : (a b : Output) → Decides (same_output a b) (a ≡ b)
output_decides a b =
    Decides-like (same_output a b) (λ h. λ i. record { name = h.0 i; path = h.1.0 i; optional = h.1.1 i })
    (λ e. (ap (λ (o : Output). o.name) e, (ap (λ (o : Output). o.path) e, ap (λ (o : Output). o.optional) e)))
    (Decides-and _ _ (bytes_decides a.name b.name) (Decides-and _ _ (bytes_decides a.path b.path) (booleans_Decides a.optional b.optional)))
