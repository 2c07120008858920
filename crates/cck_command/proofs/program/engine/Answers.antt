use Rattle.std.proofs.Common.{inr, subst}
use Rattle.std.proofs.KnownBytes.{Appends-trans}
use Rattle.std.specs.Cow.{cow_slice_items}
use Rattle.cck_command.specs.Printing.{AppendsBeginning}
use Rattle.cck_command.proofs.program.engine.Goals as goal

pub returns-in-Ok-clause-errors : goal.returns-in-Ok-clause-errors
returns-in-Ok-clause-errors g c =
    let begun = subst (AppendsBeginning (g.W.Write.contents c.args.writer.now) (g.W.Write.contents c.print.new.writer)) c.as_slice.ensures.value c.print.ensures.begun in
    let line = c.refuse.ensures.begun in
    λ _. inr (cow_slice_items c.in-Ok.output.text, (c.in-Ok.output.status, c.in-Ok.ensures.output), begun.0, line.0, Appends-trans _ _ _ _ _ begun.1 line.1)
