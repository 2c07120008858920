use Rattle.cck_strip.specs.Trie.{leaf_of}
use Rattle.cck_strip.proofs.EndingLemmas.{Passed-found, Passed-next, Passed-none, Passed-start, nodes_left-less}
use Rattle.cck_strip.proofs.RunLemmas.{At-get}
use Rattle.cck_strip.proofs.endings.node_for.Goals as goal

pub loop-next-init : goal.loop-next-init
loop-next-init c = record { within = c.requires.within; passed = Passed-start _ _ _ }

pub loop-next-preserved : goal.loop-next-preserved
loop-next-preserved c =
    let here = At-get c.args.nodes.now (c.in-Some.id.0) (leaf_of 0) (c.loop-next.invariant.within _ c.in-Some.is) in
    record {
      within = λ id e. (c.requires.forward.beside _ _ id here e).within;
      passed = Passed-next _ _ _ _ _ _ c.loop-next.invariant.passed c.in-Some.is here c.if-node-byte.false;
    }

pub loop-next-smaller : goal.loop-next-smaller
loop-next-smaller c =
    let here = At-get c.args.nodes.now (c.in-Some.id.0) (leaf_of 0) (c.loop-next.invariant.within _ c.in-Some.is) in
    nodes_left-less _ _ _ _ c.in-Some.is (c.loop-next.invariant.within _ c.in-Some.is) (λ other e. c.requires.forward.beside _ _ other here e)

pub returns-then-node-byte : goal.returns-then-node-byte
returns-then-node-byte c =
    let here = At-get c.args.nodes.now (c.in-Some.id.0) (leaf_of 0) (c.loop-next.invariant.within _ c.in-Some.is) in
    Passed-found _ _ _ _ _ _ c.loop-next.invariant.passed c.in-Some.is here c.if-node-byte.true

pub returns : goal.returns
returns c = Passed-none _ _ _ _ c.loop-next.invariant.passed c.in_default.is
