use Rattle.std.proofs.Common.{◌∙◌, sym, arith}
use Rattle.cck_strip.proofs.EndingLemmas.{IsLink-ends, IsLink-inner, byte_is, if_some, length_known, link_shorter}
use Rattle.cck_strip.specs.Trie.{leaf_of}
use Rattle.cck_strip.proofs.RunLemmas.{At-get}
use Rattle.cck_strip.proofs.endings.link_of.Goals as goal

pub returns-then-node-clause-is : goal.returns-then-node-clause-is
returns-then-node-clause-is c ending byte words t before reached depth_is =
    let here = At-get c.args.nodes.now (c.args.id.0) (leaf_of 0) c.requires.id_within in
    let same = byte_is _ _ _ _ _ _ t.leads reached here in
    let shorter = link_shorter _ _ _ _ _ _ same (if_some _ _ _ c.in-Some.is c.shorter_of.ensures.longest words ending t before) in
    IsLink-ends _ _ _ _ _ _ t here reached shorter c.if-node.true (omega arith)

pub returns-in-Some-length_of-clause-is : goal.returns-in-Some-length_of-clause-is
returns-in-Some-length_of-clause-is c ending byte words t before reached depth_is =
    let here = At-get c.args.nodes.now (c.args.id.0) (leaf_of 0) c.requires.id_within in
    let same = byte_is _ _ _ _ _ _ t.leads reached here in
    let shorter = link_shorter _ _ _ _ _ _ same (if_some _ _ _ c.in-Some.is c.shorter_of.ensures.longest words ending t before) in
    IsLink-inner _ _ _ _ _ _ t here reached shorter c.if-node.false
    (length_known _ _ _ _ _ _ t c.requires.links shorter.reached (sym c.length_of.ensures ∙ c.in-Some-length_of.is))
