use Rattle.std.proofs.Common.{IfOk, ◌||◌, sym, subst, ◌∙◌}
use Rattle.std.proofs.lemmas.Bool.{or_left}
use Rattle.cck_files.specs.Calls.{Rose}
use Rattle.cck_include.specs.Include.{include_lent}
use Rattle.cck_include.specs.JudgeContext.{setting_of}
use Rattle.cck_entry.specs.Matching.{MayMiss, matches}
use Rattle.cck_entry.specs.Statuses.{matches_with}
use Rattle.cck_entry.proofs.statuses.include_matches_with.Goals as goal

pub returns-then-is_accepted-clause-outcome : goal.returns-then-is_accepted-clause-outcome
unfolding matches_with
returns-then-is_accepted-clause-outcome g c = λ right. or_left _ _ (sym c.is_accepted.ensures ∙ c.if-is_accepted.true)

pub returns-clause-outcome : goal.returns-clause-outcome
unfolding matches_with
returns-clause-outcome g c = λ right.
    let F = g.F.Files in
    let s = setting_of g.H.HashState.hash c.args.context.now in
    let R = Rose (F.faults c.args.files.now) (F.faults c.include_matches.new.files) in
    let here = matches s (F.file_map c.args.files.now) (include_lent c.args.include.now) in
    subst (λ b. IfOk c.include_matches.result (λ is_match. MayMiss R is_match (b || here))) (sym (sym c.is_accepted.ensures ∙ c.if-is_accepted.false)) (c.include_matches.ensures.outcome right)
