-- nodes, as values of the definitions
use Rattle.std.specs.Prelude.{ℕ, List, Option}
use Rattle.cck_path.specs.Timestamp.{Moment}
use Rattle.cck_path.specs.declared.metadata.FileKind.{FileKind}
use Rattle.cck_files.specs.FileMap.{FileNode, contents_of_kind}
use Rattle.cck_files.specs.declared.node.Node.{Node}

-- kind and contents, and the times of the last modification and of the last change
abbrev pub NodeFields : Type 0
NodeFields = (FileKind × List ℕ) × (Option Moment × Option Moment)

-- all fields of a node, whatever its kind is, with the contents as a list
abbrev pub fields_of : Node → NodeFields
fields_of n = ((n.kind, n.contents.items), (n.modified, n.changed))

-- a node as a map has it: it has contents only if it is a regular file
abbrev pub node_of : Node → FileNode
node_of n = record { kind = n.kind; contents = contents_of_kind n.kind n.contents.items; modified = n.modified; changed = n.changed }
