use Rattle.std.proofs.Common.{◌∙◌, ◌∷◌, [], ◌++◌, get_or, sym, ap}
use Rattle.std.proofs.lemmas.List.{map_more}
use Rattle.cck_strip.specs.Trie.{leaf_of}
use Rattle.cck_strip.proofs.trie.node_bytes.Goals as goal

pub loop-node-preserved : goal.loop-node-preserved
loop-node-preserved c =
    c.in_ok-push.ensures.items ∙ (ap (λ l. l ++ (get_or c.args.nodes.now c.loop-node.node-index (leaf_of 0)).byte ∷ []) c.loop-node.invariant ∙ sym (map_more (λ node. node.byte) _ _ (leaf_of 0) c.loop-node-test.true))
