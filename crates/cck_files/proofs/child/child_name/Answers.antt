use Rattle.std.proofs.Common.{false, true}
use Rattle.cck_path.specs.Path.{components}
use Rattle.cck_files.proofs.ChildLemmas.{child_of, no_child}
use Rattle.cck_files.proofs.child.child_name.Goals as goal

pub returns-in_err-name : goal.returns-in_err-name
returns-in_err-name c = rw c.from_residual.ensures (no_child (components c.args.path.now) (components c.args.folder.now) c.in_err-name.ensures)

pub returns-then-is_child : goal.returns-then-is_child
returns-then-is_child c = child_of c.args.path.now (components c.args.folder.now) c.in_ok-name.name.now true c.if-is_child.ensures c.in_ok-name.ensures

pub returns : goal.returns
returns c = child_of c.args.path.now (components c.args.folder.now) c.in_ok-name.name.now false c.if-is_child.ensures c.in_ok-name.ensures
