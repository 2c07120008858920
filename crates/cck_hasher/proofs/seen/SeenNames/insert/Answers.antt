use Rattle.std.proofs.Common.{inl, inr, ap, List, ℕ, Bool}
use Rattle.cck_hasher.proofs.SeenLemmas.{filled}
use Rattle.cck_hasher.proofs.seen.SeenNames.insert.Goals as goal

pub returns : goal.returns
returns c = λ other its_system has.
    elim (filled c.args.self.now.slots c.slot_of.result (record { name = c.args.name; is_system = c.args.is_system }) (other, its_system) has) [
      | inl before ↦ inl before
      | inr same ↦ inr (ap (λ (n : List ℕ × Bool). n.0) same, ap (λ (n : List ℕ × Bool). n.1) same)
    ]
