use Rattle.std.proofs.Common.{inl, inr}
use Rattle.cck_path.specs.Path.{components}
use Rattle.cck_files.proofs.WrapperLemmas.{in_turn, nothing_exists, present}
use Rattle.cck_files.proofs.CallsLemmas.{keeps_all}
use Rattle.cck_files.proofs.wrapper.is_compiler.Goals as goal

pub returns-then-not-exists-clause-outcome : goal.returns-then-not-exists-clause-outcome
returns-then-not-exists-clause-outcome g c = let F = g.F.Files in elim c.if-not-exists.ensures.outcome [
  | inl e ↦ inl (nothing_exists (F.file_map c.args.files.now) (components c.args.path.now) e)
  | inr r ↦ inr r
]

pub returns-clause-outcome : goal.returns-clause-outcome
returns-clause-outcome g c = let F = g.F.Files in
    in_turn (F.faults c.args.files.now) (F.faults c.exists.new.self) (F.faults c.leads_to_wrapper.new.files)
    c.exists.ensures.keeps.not_lower c.in_ok-leads.ensures.keeps.not_lower
    (inl c.if-not-exists.ensures.outcome) c.in_ok-leads.ensures.outcome
    (λ there leads. present (F.file_map c.args.files.now) (F.file_map c.exists.new.self) (components c.args.path.now) c.in_ok-leads.leads c.exists.ensures.keeps.same_map there leads)

pub returns-in_err-leads-clause-keeps : goal.returns-in_err-leads-clause-keeps
returns-in_err-leads-clause-keeps g c = keeps_all _ _ _ c.exists.ensures.keeps c.in_err-leads.ensures.keeps

pub returns-clause-keeps : goal.returns-clause-keeps
returns-clause-keeps g c = keeps_all _ _ _ c.exists.ensures.keeps c.in_ok-leads.ensures.keeps

pub returns-clause-judgement : goal.returns-clause-judgement
returns-clause-judgement g c = λ _. c.if-not-exists.ensures.outcome
