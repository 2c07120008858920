use Rattle.cck_compiler.proofs.ListLemmas.{same_lists}
use Rattle.cck_compiler.proofs.lists.copy_lists.Goals as goal

pub returns : goal.returns
returns c = same_lists _ _ c.in_ok-copies.ensures.ok
