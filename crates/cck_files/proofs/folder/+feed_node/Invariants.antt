use Rattle.std.proofs.Common.{◌-◌, map, take}
use Rattle.std.specs.Prelude.{flat_map, vec_items}
use Rattle.std.specs.Option.{option_copied}
use Rattle.cck_digest.specs.Stream.{IsPiece}
use Rattle.cck_path.specs.Path.{components}
use Rattle.cck_files.specs.Calls.{Keeps}
use Rattle.cck_files.specs.Folder.{IsFedNodes}
use Rattle.cck_files.proofs.FolderChildLemmas.{child_nodes}
use Rattle.cck_files.proofs.folder.+feed_node.Given as goal

-- a directory of the last level has no directory below it
abbrev pub decreases-feed_node : goal.decreases-feed_node
decreases-feed_node g l = 101 - l.level

-- the children so far were fed
abbrev pub invariant-loop-child : goal.invariant-loop-child
invariant-loop-child g l = let F = g.F.Files in record {
  keeps : Keeps F.file_map F.faults F.is_quiet l.fn.files l.files;
  room : IsPiece l.buffer;
  fed : IsFedNodes g.H.HashState.holds l.level (option_copied l.name) (flat_map (child_nodes (F.file_map l.fn.files).nodes (components l.path)) (take l.child-index (map vec_items l.child-items))) l.fn.digest l.digest;
}
