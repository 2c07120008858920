use Rattle.std.proofs.Common.{◌∙◌, ap, sym, refl, arith, ◌∷◌, []}
use Rattle.std.proofs.lemmas.List.{map-append}
use Rattle.cck_command.specs.Script.{commands_of, wrong_line}
use Rattle.cck_command.specs.ScriptSeen.{reading_of}
use Rattle.cck_script.specs.Seen.{line_of}
use Rattle.cck_command.proofs.ScriptLemmas.{lines_more, lines_skipped, here_of_command, skipped_here, wrong_here}
use Rattle.cck_command.proofs.WordLemmas.{cut_less}
use Rattle.cck_command.proofs.script.Script.parse.Goals.{in-Skipped, in-Says+in_ok-push-in-Says}
use Rattle.cck_command.proofs.script.Script.parse.Goals as goal

pub loop-left-init : goal.loop-left-init
unfolding wrong_line commands_of
loop-left-init c = record { bound = omega arith; wrong = refl; lines = rw c.new-commands.ensures.items refl }

pub returns-in-Wrong : goal.returns-in-Wrong
returns-in-Wrong c =
    wrong_here _ _ c.in-Some.lines.now c.cut-part.result.front.now _ c.cut-part.ensures
    (sym (ap reading_of c.in-Wrong.is) ∙ c.in_ok-read_line.ensures) (rw c.in-Some.is at c.loop-left.invariant.wrong)

pub loop-left-smaller : goal.loop-left-smaller
loop-left-smaller c = rw c.in-Some.is (cut_less 10 c.in-Some.lines.now _ _ c.cut-part.ensures)

pub loop-left-preserved : goal.loop-left-preserved
loop-left-preserved c = elim c.match-branch-2.branch [
  | in-Skipped w ↦ record {
    bound = let h = rw c.in-Some.is at c.loop-left.invariant.bound in let less = cut_less 10 c.in-Some.lines.now _ _ c.cut-part.ensures in omega arith;
    wrong = skipped_here _ _ c.in-Some.lines.now c.cut-part.result.front.now _ c.cut-part.ensures
        (sym (ap reading_of w.in-Skipped.is) ∙ c.in_ok-read_line.ensures) (rw c.in-Some.is at c.loop-left.invariant.wrong);
    lines = rw w.commands-is (lines_skipped _ _ c.in-Some.lines.now c.cut-part.result.front.now _ c.cut-part.ensures
        (sym (ap reading_of w.in-Skipped.is) ∙ c.in_ok-read_line.ensures) (rw c.in-Some.is at c.loop-left.invariant.lines));
  }
  | in-Says+in_ok-push-in-Says w ↦ record {
    bound = let h = rw c.in-Some.is at c.loop-left.invariant.bound in let less = cut_less 10 c.in-Some.lines.now _ _ c.cut-part.ensures in omega arith;
    wrong = here_of_command _ _ c.in-Some.lines.now c.cut-part.result.front.now _ _ c.cut-part.ensures
        (sym (ap reading_of w.in-Says.is) ∙ c.in_ok-read_line.ensures) (rw c.in-Some.is at c.loop-left.invariant.wrong);
    lines = rw w.commands-is (rw w.in_ok-push-in-Says.ensures.items (rw (map-append line_of c.loop-left.commands.items (w.in-Says.command ∷ [])) (lines_more _ _ c.in-Some.lines.now c.cut-part.result.front.now _ _ c.cut-part.ensures
        (sym (ap reading_of w.in-Says.is) ∙ c.in_ok-read_line.ensures) (rw c.in-Some.is at c.loop-left.invariant.lines))));
  }
]
