use Rattle.std.proofs.Common.{map, take}
use Rattle.cck_strip.specs.Trie.{IsForward, IsTrie}
use Rattle.cck_strip.proofs.trie.word_nodes.Given as goal

abbrev pub invariant-loop-word : goal.invariant-loop-word
invariant-loop-word l = record {
  forward : IsForward l.nodes.items;
  trie : IsTrie l.nodes.items (map (λ b. b.items) (take l.word-index l.words));
}
