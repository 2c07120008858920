use Rattle.std.proofs.Common.{refl, Some}
use Rattle.cck_script.specs.Surroundings.{file_node}
use Rattle.cck_script.proofs.FileLemmas.{files_first}
use Rattle.cck_script.proofs.surroundings.first_files.Goals as goal

pub returns-clause-files : goal.returns-clause-files
returns-clause-files c =
    rw c.in_ok-put_node.ensures.set (rw c.new-files.ensures (files_first _ _ refl
    (λ i. file_node (c.in_ok-contents.ensures.items_if_clones_equal (λ x y e. e) i) (Some (c.new-start.ensures i)) (Some (c.new-start.ensures i)))))
