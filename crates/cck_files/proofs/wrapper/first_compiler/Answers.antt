use Rattle.std.proofs.Common.{inl, refl, sym, ap, ◌∙◌}
use Rattle.cck_files.proofs.CallsLemmas.{keeps_itself, keeps_all}
use Rattle.cck_files.specs.FileMap.{exists_at}
use Rattle.cck_path.specs.Path.{components}
use Rattle.cck_files.specs.Wrapper.{is_compiler}
use Rattle.cck_files.proofs.WrapperLemmas.{in_turn, exists_here, exists_later}
use Rattle.cck_files.proofs.wrapper.first_compiler.Goals as goal

pub loop-part-init : goal.loop-part-init
loop-part-init g c = record { kept = keeps_itself c.args.files.now; left = inl refl }

pub loop-part-preserved : goal.loop-part-preserved
loop-part-preserved g c = let F = g.F.Files in let kept = c.loop-part.invariant.kept in let next = c.in_ok-is_compiler.ensures in record {
  kept = keeps_all c.args.files.now c.loop-part.files c.is_compiler.new.files kept next.keeps;
  left = in_turn (F.faults c.args.files.now) (F.faults c.loop-part.files) (F.faults c.is_compiler.new.files) kept.not_lower next.keeps.not_lower
      c.loop-part.invariant.left next.outcome
      (λ left found. sym (exists_later (F.file_map c.args.files.now) c.args.name.now c.args.parts.now c.loop-part.part-index _ c.in-Ok.path.items
      c.loop-part-test.true c.in-Ok.ensures.bytes
      (sym c.if-branch.false ∙ found ∙ ap (λ s. is_compiler (F.file_map c.loop-part.files) (components s)) c.deref.ensures.value
      ∙ ap (λ m. is_compiler m (components c.in-Ok.path.items)) kept.same_map))
      ∙ left);
}

pub returns-then-branch-clause-outcome : goal.returns-then-branch-clause-outcome
returns-then-branch-clause-outcome g c = let F = g.F.Files in let kept = c.loop-part.invariant.kept in let next = c.in_ok-is_compiler.ensures in
    in_turn (F.faults c.args.files.now) (F.faults c.loop-part.files) (F.faults c.is_compiler.new.files) kept.not_lower next.keeps.not_lower
    c.loop-part.invariant.left next.outcome
    (λ left found. sym (exists_here (F.file_map c.args.files.now) c.args.name.now c.args.parts.now c.loop-part.part-index _ c.in-Ok.path.items
    c.loop-part-test.true c.in-Ok.ensures.bytes
    (sym c.if-branch.true ∙ found ∙ ap (λ s. is_compiler (F.file_map c.loop-part.files) (components s)) c.deref.ensures.value
    ∙ ap (λ m. is_compiler m (components c.in-Ok.path.items)) kept.same_map))
    ∙ left)

pub returns-then-branch-clause-judgement : goal.returns-then-branch-clause-judgement
returns-then-branch-clause-judgement g c = let F = g.F.Files in
    sym (ap (λ s. exists_at (F.file_map c.loop-part.files) (components s)) c.deref.ensures.value
    ∙ ap (λ m. exists_at m (components c.in-Ok.path.items)) c.loop-part.invariant.kept.same_map)
    ∙ c.in_ok-is_compiler.ensures.judgement c.if-branch.true

pub returns-in_err-is_compiler-clause-keeps : goal.returns-in_err-is_compiler-clause-keeps
returns-in_err-is_compiler-clause-keeps g c = keeps_all _ _ _ c.loop-part.invariant.kept c.in_err-is_compiler.ensures.keeps

pub returns-then-branch-clause-keeps : goal.returns-then-branch-clause-keeps
returns-then-branch-clause-keeps g c = keeps_all _ _ _ c.loop-part.invariant.kept c.in_ok-is_compiler.ensures.keeps
