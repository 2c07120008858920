use Rattle.std.proofs.Common.{inl, inr, sym}
use Rattle.cck_path.specs.Path.{components}
use Rattle.cck_files.proofs.WrapperLemmas.{no_root, at_root}
use Rattle.cck_files.proofs.wrapper.is_settled.Goals as goal

pub returns-then-not-is_absolute-clause-outcome : goal.returns-then-not-is_absolute-clause-outcome
returns-then-not-is_absolute-clause-outcome g c =
    inl (no_root (g.F.Files.file_map c.args.files.now) (components c.args.path.now) (sym c.if-not-is_absolute.ensures))

pub returns-clause-outcome : goal.returns-clause-outcome
returns-clause-outcome g c = elim c.in_ok-leads.ensures.outcome [
  | inl e ↦ inl (at_root (g.F.Files.file_map c.args.files.now) (components c.args.path.now) c.in_ok-leads.leads (sym c.if-not-is_absolute.ensures) e)
  | inr r ↦ inr r
]
