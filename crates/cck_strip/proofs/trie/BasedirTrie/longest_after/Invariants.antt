use Rattle.std.proofs.Common.{◌≡◌, ◌<◌, Some, length}
use Rattle.cck_strip.specs.Trie.{HasRun}
use Rattle.cck_strip.specs.declared.node.NodeId.{NodeId}
use Rattle.cck_strip.proofs.WalkLemmas.{Pending, nodes_left}
use Rattle.cck_strip.proofs.trie.BasedirTrie.longest_after.Given as goal

abbrev pub invariant-loop-depth : goal.invariant-loop-depth
invariant-loop-depth l = record {
  within : (id : NodeId) → l.next ≡ Some id → id.0 < length l.self-inside.nodes.items;
  pending : HasRun l.shared l.self-inside.nodes.items l.text → Pending l.self-inside.nodes.items l.text l.next l.depth l.longest;
}

abbrev pub decreases-loop-depth : goal.decreases-loop-depth
decreases-loop-depth l = nodes_left l.self-inside.nodes.items l.next
