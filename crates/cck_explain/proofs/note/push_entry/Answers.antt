use Rattle.std.proofs.Common.{◌∷◌, ◌++◌, [], ◌∙◌, ap, append_assoc, inl, refl, reverse, subst, sym}
use Rattle.std.specs.Prelude.{codes}
use Rattle.std.specs.List.{flat_map}
use Rattle.cck_include.specs.JudgeContext.{setting_of}
use Rattle.cck_path.specs.Bytes.{Bytes}
use Rattle.cck_explain.specs.Judged.{AreJudgedResults}
use Rattle.cck_explain.specs.Note.{result_lines}
use Rattle.cck_explain.proofs.note.push_entry.Goals as goal

pub returns-in_ok-push_results-in-Ok-clause-lines : goal.returns-in_ok-push_results-in-Ok-clause-lines
returns-in_ok-push_results-in-Ok-clause-lines g c = λ calm.
    let s = setting_of g.H.HashState.hash c.args.context.now in
    let old = g.F.Files.file_map c.args.files.now in
    let one = c.in_ok-push_results-in-Ok.ensures.lines calm in
    let head : Bytes = codes "store entry" ++ 10 ∷ [] in
    let are = subst (λ l. AreJudgedResults s old (reverse l) one.0) (sym c.results.ensures) one.1 in (
      head ++ flat_map result_lines one.0,
      inl (c.in-Ok.entry, c.in-Ok.ensures.reads, (one.0, are, refl)),
      one.2 ∙ ap (λ l. l ++ flat_map result_lines one.0) c.in_ok-extend_from_slice-in-Ok.ensures.items ∙ append_assoc c.args.lines.now.items head (flat_map result_lines one.0),
    )
