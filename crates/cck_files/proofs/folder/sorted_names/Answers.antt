use Rattle.std.specs.Prelude.{vec_items}
use Rattle.cck_files.proofs.ChildNames.{names_in_order}
use Rattle.cck_files.proofs.NameOrder.{in_order}
use Rattle.cck_files.proofs.folder.sorted_names.Goals as goal

pub returns-clause-names : goal.returns-clause-names
returns-clause-names g c = names_in_order _ _ _ (in_order vec_items _ _ _ _ c.in_ok-names.ensures.outcome c.sort_unstable.ensures.permutation c.sort_unstable.ensures.sorted)

pub returns-clause-outcome : goal.returns-clause-outcome
returns-clause-outcome g c = in_order vec_items _ _ _ _ c.in_ok-names.ensures.outcome c.sort_unstable.ensures.permutation c.sort_unstable.ensures.sorted
