use Rattle.std.proofs.Common.{refl}
use Rattle.cck_strip.proofs.EndingLemmas.{longer_below, longer_start}
use Rattle.cck_strip.specs.Trie.{leaf_of}
use Rattle.cck_strip.proofs.RunLemmas.{At-get}
use Rattle.cck_strip.proofs.endings.longer.Goals as goal

pub returns-in-None-clause-longer : goal.returns-in-None-clause-longer
returns-in-None-clause-longer c = longer_start _ _ _ _ _ c.in-None.is refl c.node_for.ensures

pub returns-in-Some-clause-longer : goal.returns-in-Some-clause-longer
returns-in-Some-clause-longer c =
    longer_below _ _ _ _ _ _ c.in-Some.is (At-get c.args.nodes.now (c.in-Some.id.0) (leaf_of 0) (c.requires.within _ c.in-Some.is)) c.node_for-in-Some.ensures
