use Rattle.std.proofs.Common.{ap}
use Rattle.std.proofs.lemmas.Bool.Decides.{Decides-and, Decides-eqb, Decides-like}
use Rattle.cck_strip.specs.declared.cut_list.Cut.{Cut}
use Rattle.cck_strip.proofs.laws.cut_equality_is_exact.Goals as goal

pub returns : goal.returns
returns c = λ a b.
    Decides-like _ (λ h. λ i. record { offset = h.0 i; length = h.1 i }) (λ e. (ap (λ (c : Cut). c.offset) e, ap (λ (c : Cut). c.length) e))
    (Decides-and _ _ (Decides-eqb a.offset b.offset) (Decides-eqb a.length b.length))
