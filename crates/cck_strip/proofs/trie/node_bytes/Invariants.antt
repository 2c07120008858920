use Rattle.std.proofs.Common.{◌≡◌, map, take}
use Rattle.cck_strip.proofs.trie.node_bytes.Given as goal

abbrev pub invariant-loop-node : goal.invariant-loop-node
invariant-loop-node l = l.bytes.items ≡ map (λ node. node.byte) (take l.node-index l.nodes)
