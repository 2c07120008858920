use Rattle.std.proofs.Common.{◌≡◌, true, inl, inr, sym, map, ap, ◌∙◌, subst, Contains, IfSome}
use Rattle.cck_files.specs.FileMap.{exists_at}
use Rattle.cck_path.specs.Bytes.{variables_of}
use Rattle.cck_path.specs.Path.{components}
use Rattle.cck_path.specs.Text.{join_path}
use Rattle.cck_files.proofs.WrapperLemmas.{in_turn, nothing_found, no_name, no_path, candidates_by, first_found, if_ok}
use Rattle.cck_files.proofs.CallsLemmas.{keeps_all}
use Rattle.cck_files.proofs.wrapper.find_compiler.Goals as goal

pub returns-then-branch-clause-outcome : goal.returns-then-branch-clause-outcome
returns-then-branch-clause-outcome g c = elim c.in_ok-is_settled.ensures.outcome [
  | inl e ↦ inl (nothing_found (g.F.Files.file_map c.args.files.now) c.args.executable.now (variables_of c.args.vars.now) (sym c.if-branch.true ∙ e))
  | inr r ↦ inr r
]

pub returns-in_default-clause-outcome : goal.returns-in_default-clause-outcome
returns-in_default-clause-outcome g c =
    inl (no_name (g.F.Files.file_map c.args.files.now) c.args.executable.now (variables_of c.args.vars.now) c.in_default.ensures)

pub returns-in_default-first_value-clause-outcome : goal.returns-in_default-first_value-clause-outcome
returns-in_default-first_value-clause-outcome g c =
    inl (no_path (g.F.Files.file_map c.args.files.now) c.args.executable.now c.in-Some.name.now (variables_of c.args.vars.now)
    c.in-Some.ensures c.in_default-first_value.ensures)

pub returns-clause-outcome : goal.returns-clause-outcome
returns-clause-outcome g c =
    let F = g.F.Files in
    let vars = variables_of c.args.vars.now in
    let paths = candidates_by c.args.executable.now c.in-Some.name.now c.in-Some-first_value.path.now vars c.deref.result.now
    c.in-Some.ensures c.in-Some-first_value.ensures (ap (map (λ part. part.now)) c.deref.ensures.value ∙ c.in_ok-parts.ensures) in
    let settled = c.in_ok-is_settled.ensures in
    if_ok c.first_compiler.result c.first_compiler.ensures.outcome (λ compiler found.
    in_turn (F.faults c.args.files.now) (F.faults c.is_settled.new.files) (F.faults c.first_compiler.new.files) settled.keeps.not_lower c.first_compiler.ensures.keeps.not_lower
    settled.outcome found
    (λ other first. first ∙ first_found (F.file_map c.args.files.now) (F.file_map c.is_settled.new.files) c.args.executable.now vars
    (map (λ part. join_path part.now c.in-Some.name.now) c.deref.result.now) settled.keeps.same_map paths (sym c.if-branch.false ∙ other)))

pub returns-clause-place : goal.returns-clause-place
returns-clause-place g c =
    let vars = variables_of c.args.vars.now in
    let paths = candidates_by c.args.executable.now c.in-Some.name.now c.in-Some-first_value.path.now vars c.deref.result.now
    c.in-Some.ensures c.in-Some-first_value.ensures (ap (map (λ part. part.now)) c.deref.ensures.value ∙ c.in_ok-parts.ensures) in
    if_ok c.first_compiler.result c.first_compiler.ensures.place
    (λ compiler place. subst (λ ps. IfSome compiler (λ path. Contains ps path.items)) paths place)

pub returns-clause-judgement : goal.returns-clause-judgement
returns-clause-judgement g c =
    if_ok c.first_compiler.result c.first_compiler.ensures.judgement
    (λ compiler judgement. subst (λ m. IfSome compiler (λ path. exists_at m (components path.items) ≡ true)) c.in_ok-is_settled.ensures.keeps.same_map judgement)

pub returns-clause-keeps : goal.returns-clause-keeps
returns-clause-keeps g c = keeps_all _ _ _ c.in_ok-is_settled.ensures.keeps c.first_compiler.ensures.keeps
