use Rattle.cck_include.proofs.LineLemmas.{three_at, three_nowhere}
use Rattle.cck_include.proofs.line.has_three.Goals as goal

pub returns-in-Some : goal.returns-in-Some
returns-in-Some c = three_at c.args.text.now c.in-Some.place 0 c.in-Some.ensures

pub returns-in-None : goal.returns-in-None
returns-in-None c = three_nowhere c.args.text.now c.in-None.ensures
