use Rattle.std.proofs.Common.{[], ◌∷◌, codes}
use Rattle.cck_explain.proofs.RunLemmas.{first_of_three, second_of_three, third_of_three}
use Rattle.cck_explain.proofs.program.print_error.Goals as goal

pub returns-in_err-print : goal.returns-in_err-print
returns-in_err-print g c = first_of_three _ _ (codes "cck_explain: ") c.args.why.now (10 ∷ []) c.in_err-print.ensures.begun

pub returns-in_err-print-2 : goal.returns-in_err-print-2
returns-in_err-print-2 g c = second_of_three _ _ _ (codes "cck_explain: ") c.args.why.now (10 ∷ []) c.in_ok-print.ensures.whole c.in_err-print-2.ensures.begun

pub returns : goal.returns
returns g c = third_of_three _ _ _ _ (codes "cck_explain: ") c.args.why.now (10 ∷ []) c.in_ok-print.ensures.whole c.in_ok-print-2.ensures.whole c.print-3.ensures.begun
