use Rattle.std.proofs.Common.{arith, codes}
use Rattle.cck_command.proofs.ExpandLemmas.{occurs_after}
use Rattle.cck_command.proofs.mini.expand.plain_size.Goals as goal

pub returns-in-Some-clause-plain : goal.returns-in-Some-clause-plain
returns-in-Some-clause-plain c = λ place some l at.
    c.in-Some.ensures.0.before _ (omega arith) (omega (arith, some, l)) (occurs_after c.args.left.now (codes "__") place some at)

pub returns-in-None-clause-plain : goal.returns-in-None-clause-plain
returns-in-None-clause-plain c = λ place some l at.
    let following = occurs_after c.args.left.now (codes "__") place some at in
    c.in-None.ensures _ (omega arith) (omega (arith, following.fits)) following
