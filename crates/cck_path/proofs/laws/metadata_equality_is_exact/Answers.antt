use Rattle.std.proofs.Common.{ap}
use Rattle.std.proofs.lemmas.Bool.Decides.{Decides-and, Decides-eqb, Decides-like}
use denote.Enum.Bare.{same_true, true_same}
use Rattle.cck_path.specs.contracts.metadata.FileKind.{the_type}
use Rattle.cck_path.specs.declared.metadata.Metadata.{Metadata}
use Rattle.cck_path.proofs.EqualityLemmas.{time_decides}
use Rattle.cck_path.proofs.laws.metadata_equality_is_exact.Goals as goal

pub returns : goal.returns
returns c = λ a b.
    Decides-like _ (λ h. λ i. record { kind = h.0 i; len = h.1.0 i; modified = h.1.1.0 i; changed = h.1.1.1 i })
    (λ e. (ap (λ (m : Metadata). m.kind) e, (ap (λ (m : Metadata). m.len) e, (ap (λ (m : Metadata). m.modified) e, ap (λ (m : Metadata). m.changed) e))))
    (Decides-and _ _ (same_true the_type tt a.kind b.kind, true_same the_type a.kind b.kind) (Decides-and _ _ (Decides-eqb a.len b.len)
    (Decides-and _ _ (time_decides a.modified b.modified) (time_decides a.changed b.changed))))
