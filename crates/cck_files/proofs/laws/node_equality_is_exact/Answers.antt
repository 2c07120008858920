use Rattle.std.proofs.Common.{ap}
use Rattle.std.proofs.lemmas.Bool.Decides.{Decides-and, Decides-like}
use Rattle.std.specs.Cmp.Lexicographic.{bytes_decides}
use denote.Enum.Bare.{same_true, true_same}
use Rattle.cck_path.specs.contracts.metadata.FileKind.{the_type}
use Rattle.cck_path.proofs.EqualityLemmas.{time_decides}
use Rattle.cck_files.specs.Node.{NodeFields}
use Rattle.cck_files.proofs.laws.node_equality_is_exact.Goals as goal

pub returns : goal.returns
returns c = λ a b.
    Decides-like _ (λ h. λ i. ((h.0 i, h.1.0 i), (h.1.1.0 i, h.1.1.1 i)))
    (λ e. (ap (λ (f : NodeFields). f.0.0) e, (ap (λ (f : NodeFields). f.0.1) e, (ap (λ (f : NodeFields). f.1.0) e, ap (λ (f : NodeFields). f.1.1) e))))
    (Decides-and _ _ (same_true the_type tt a.kind b.kind, true_same the_type a.kind b.kind) (Decides-and _ _ (bytes_decides a.contents.items b.contents.items)
    (Decides-and _ _ (time_decides a.modified b.modified) (time_decides a.changed b.changed))))
