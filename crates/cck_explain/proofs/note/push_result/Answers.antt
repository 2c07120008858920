use Rattle.std.proofs.Common.{◌≡◌, ◌==◌, ◌++◌, ◌∙◌, ap}
use Rattle.std.specs.List.{flat_map}
use Rattle.cck_explain_listing.specs.Quoted.{quoted}
use Rattle.cck_explain.specs.Note.{change_word, include_line}
use Rattle.cck_explain.proofs.JudgedLemmas.{result_appended}
use Rattle.cck_explain.proofs.note.push_result.Goals as goal

pub returns-clause-lines : goal.returns-clause-lines
returns-clause-lines g c = λ calm known.
    let one = c.in_ok-push_includes.ensures.lines calm known in
    let differences : c.push_includes.new.lines.items ≡ flat_map include_line one.0 = one.2 ∙ ap (λ l. l ++ flat_map include_line one.0) c.new-differences.ensures.items in (
      one.0,
      one.1,
      result_appended c.args.lines.now.items _ _ _ _ _ _ c.args.key.now c.change.result.now c.push_includes.new.lines.items one.0 c.in_ok-extend_from_slice.ensures.items
          (c.in_ok-push_quoted.ensures ∙ ap (λ l. c.extend_from_slice.new.self.items ++ l) (ap quoted c.as_bytes.ensures.value)) c.in_ok-extend_from_slice-2.ensures.items c.in_ok-extend_from_slice-3.ensures.items
          c.in_ok-push.ensures.items (c.in_ok-extend_from_slice-4.ensures.items ∙ ap (λ l. c.push.new.self.items ++ l) c.deref.ensures.value)
          (c.change.ensures ∙ ap change_word (c.is_empty.ensures ∙ ap (λ n. n == 0) c.push_includes.new.lines.ok.0)) differences,
    )
