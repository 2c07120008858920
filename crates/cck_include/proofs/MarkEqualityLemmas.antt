-- the tests of equality are true exactly if two marks say the same
use Rattle.std.proofs.Common.{◌≡◌, refl, ap}
use Rattle.std.proofs.lemmas.Bool.Decides.{Decides-and, Decides-eqb, Decides-like}
use Rattle.std.specs.Cmp.{booleans_Decides}
use Rattle.std.specs.Cmp.Lexicographic.{bytes_decides}
use Rattle.std.specs.Prelude.{Decides}
use Rattle.cck_include.specs.Lines.{NamedFrom, UnnamedTo, read_of}
use Rattle.cck_include.specs.Markers.{mark_of}
use Rattle.cck_include.specs.Marks as marks
use Rattle.cck_include.specs.contracts.line.LinePartialEq.TheImpl as same_line
use Rattle.cck_include.specs.contracts.mark.MarkPartialEq.TheImpl as same_mark
use Rattle.cck_include.specs.declared.line.Line.{Line}
use Rattle.cck_include.specs.declared.line.Line.TheVariants as line
use Rattle.cck_include.specs.declared.mark.Mark.{Mark}
use Rattle.cck_include.specs.declared.mark.Mark.TheVariants.{Name, Refusal, Malformed}

pub mark_decides : (a b : Mark) → Decides (same_mark.ghosts.eq a b) (mark_of a ≡ mark_of b)
mark_decides (Name m s) (Name n t) = Decides-like _ (λ h. λ i. marks.Name (h.0 i) (h.1 i)) (λ e. (cc, cc)) (Decides-and _ _ (bytes_decides m.now n.now) (booleans_Decides s t))
mark_decides (Name m s) Refusal = (λ e. absurd cc, λ e. absurd cc)
mark_decides (Name m s) Malformed = (λ e. absurd cc, λ e. absurd cc)
mark_decides Refusal (Name n t) = (λ e. absurd cc, λ e. absurd cc)
mark_decides Refusal Refusal = (λ _. refl, λ _. refl)
mark_decides Refusal Malformed = (λ e. absurd cc, λ e. absurd cc)
mark_decides Malformed (Name n t) = (λ e. absurd cc, λ e. absurd cc)
mark_decides Malformed Refusal = (λ e. absurd cc, λ e. absurd cc)
mark_decides Malformed Malformed = (λ _. refl, λ _. refl)

pub line_decides : (a b : Line) → Decides (same_line.ghosts.eq a b) (read_of a ≡ read_of b)
line_decides (line.Unnamed a) (line.Unnamed b) = Decides-like _ (λ e. ap UnnamedTo e) (λ e. cc) (Decides-eqb a b)
line_decides (line.Named a b m s) (line.Named c d n t) =
    Decides-like _ (λ h. λ i. NamedFrom (h.0 i) (h.1.0 i) (h.1.1.0 i) (h.1.1.1 i)) (λ e. (cc, (cc, (cc, cc))))
    (Decides-and _ _ (Decides-eqb a c) (Decides-and _ _ (Decides-eqb b d) (Decides-and _ _ (bytes_decides m.now n.now) (booleans_Decides s t))))
line_decides line.Malformed line.Malformed = (λ _. refl, λ _. refl)
line_decides (line.Unnamed a) (line.Named c d n t) = (λ e. absurd cc, λ e. absurd cc)
line_decides (line.Unnamed a) line.Malformed = (λ e. absurd cc, λ e. absurd cc)
line_decides (line.Named a b m s) (line.Unnamed c) = (λ e. absurd cc, λ e. absurd cc)
line_decides (line.Named a b m s) line.Malformed = (λ e. absurd cc, λ e. absurd cc)
line_decides line.Malformed (line.Unnamed c) = (λ e. absurd cc, λ e. absurd cc)
line_decides line.Malformed (line.Named c d n t) = (λ e. absurd cc, λ e. absurd cc)
