use Rattle.std.proofs.Common.{subst}
use Rattle.cck_files.specs.Calls.{Rose}
use Rattle.cck_include.specs.Include.{include_lent}
use Rattle.cck_include.specs.JudgeContext.{setting_of}
use Rattle.cck_explain.specs.Judged.{IsJudged}
use Rattle.cck_explain.proofs.JudgedLemmas.{judged, no_fault}
use Rattle.cck_explain.proofs.note.push_include.Goals as goal

pub returns-clause-lines : goal.returns-clause-lines
returns-clause-lines g c = λ calm known.
    let F = g.F.Files in
    let s = setting_of g.H.HashState.hash c.args.context.now in
    let old = F.file_map c.args.files.now in
    let seen = c.in_ok-difference.difference in
    let fault = no_fault F.file_map F.faults F.is_quiet c.args.files.now c.difference_of.new.files c.in_ok-difference.ensures.keeps calm in
    let is = judged s old (Rose (F.faults c.args.files.now) (F.faults c.difference_of.new.files)) (include_lent c.lend.result) seen fault
    (c.in_ok-difference.ensures.matching known) c.in_ok-difference.ensures.difference in
    (seen, subst (λ i. IsJudged s old (i, seen)) c.lend.ensures is, c.in_ok-push_difference.ensures)
