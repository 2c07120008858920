use Rattle.std.proofs.Common.{◌++◌, ◌∷◌, [], subst}
use Rattle.cck_files.proofs.CallsLemmas.{keeps_all}
use Rattle.cck_include.specs.Include.{include_in, includes_in}
use Rattle.cck_include.specs.JudgeContext.{setting_of}
use Rattle.cck_entry.specs.Known.{AreKnown}
use Rattle.cck_explain.specs.Judged.{AreJudged, IsJudged}
use Rattle.cck_explain.specs.Note.{include_line}
use Rattle.cck_explain.proofs.JudgedLemmas.{calm_after, lines_on, one_judged, taken_more}
use Rattle.cck_explain.proofs.note.push_includes.Goals as goal

pub loop-include-preserved : goal.loop-include-preserved
loop-include-preserved g c =
    let F = g.F.Files in
    let s = setting_of g.H.HashState.hash c.args.context.now in
    let old = F.file_map c.args.files.now in
    let same = c.loop-include.invariant.keeps.same_map in
    let x = c.include-item.result in
    let right : AreKnown s old c.args.known.now → AreKnown s (F.file_map c.loop-include.files) c.loop-include.known = λ known. rw same (c.loop-include.invariant.known known) in
    record {
      keeps = keeps_all _ _ _ c.loop-include.invariant.keeps c.in_ok-push_include.ensures.keeps;
      known = λ known. subst (λ m. AreKnown s m c.push_include.new.known) same (c.in_ok-push_include.ensures.known (right known));
      lines = λ calm known.
          let before = c.loop-include.invariant.lines calm known in
          let one = c.in_ok-push_include.ensures.lines (calm_after F.file_map F.faults F.is_quiet c.args.files.now c.loop-include.files c.loop-include.invariant.keeps calm) (right known) in
          let seen = one.0 in
          let is = subst (λ m. IsJudged s m (include_in x, seen)) same one.1 in (
            before.0 ++ (include_in x, seen) ∷ [],
            rw (taken_more include_in c.args.includes.now c.loop-include.include-index x c.loop-include-test.true c.include-item.is) (one_judged s old _ before.0 (include_in x) seen before.1 is),
            lines_on include_line before.0 (include_in x, seen) c.args.lines.now.items c.loop-include.lines.items _ before.2 one.2,
          );
    }

pub returns-in_err-push_include-clause-known : goal.returns-in_err-push_include-clause-known
returns-in_err-push_include-clause-known g c = λ known.
    let F = g.F.Files in
    let s = setting_of g.H.HashState.hash c.args.context.now in
    let same = c.loop-include.invariant.keeps.same_map in
    let right : AreKnown s (F.file_map c.loop-include.files) c.loop-include.known = rw same (c.loop-include.invariant.known known) in
    subst (λ m. AreKnown s m c.push_include.new.known) same (c.in_err-push_include.ensures.known right)
