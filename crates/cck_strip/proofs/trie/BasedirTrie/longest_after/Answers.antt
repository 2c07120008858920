use Rattle.std.proofs.Common.{◌+◌, ◌<◌, ◌≤◌, false, true, length, ap, refl, rules, sym, arith}
use Rattle.cck_strip.specs.Trie.{At}
use Rattle.cck_strip.proofs.RunLemmas.{Pending-after, Pending-compared, after_run, named_within, run_below, run_ends}
use Rattle.cck_strip.proofs.WalkLemmas.{Pending-end, Pending-match, Pending-none, Pending-pass, Pending-some}
use Rattle.cck_strip.proofs.trie.BasedirTrie.longest_after.Goals as goal

pub loop-depth-init : goal.loop-depth-init
loop-depth-init c = record {
  within = after_run _ _ c.self.invariant.0 (rw c.self.view_is c.requires);
  pending = Pending-after _ _ _ c.self.invariant.0 (rw c.self.view_is c.requires);
}

pub loop-depth-preserved-then-node-text : goal.loop-depth-preserved-then-node-text
loop-depth-preserved-then-node-text c =
    let there : At c.self.inside.nodes.items (c.in-Some.id.0) c.index-node.result.now = record { within = c.loop-depth.invariant.within _ c.in-Some.is; is = sym c.index-node.ensures } in
    record {
      within = λ id e. (c.self.invariant.0.beside _ _ id there e).within;
      pending = λ h.
          Pending-pass _ _ _ _ _ _ (Pending-some _ _ _ _ _ _ c.in-Some.is (c.loop-depth.invariant.pending h)) c.self.invariant.0 there
          c.loop-depth-test.true c.if-node-text.true;
    }

pub loop-depth-preserved-then-node : goal.loop-depth-preserved-then-node
loop-depth-preserved-then-node c =
    let there : At c.self.inside.nodes.items (c.in-Some.id.0) c.index-node.result.now = record { within = c.loop-depth.invariant.within _ c.in-Some.is; is = sym c.index-node.ensures } in
    record {
      within = λ id e. (c.self.invariant.0.below _ _ id there e).within;
      pending = λ h.
          Pending-match _ _ _ _ _ _ _ (Pending-some _ _ _ _ _ _ c.in-Some.is (c.loop-depth.invariant.pending h)) c.self.invariant.0 there
          c.loop-depth-test.true c.if-node-text.false (rw c.if-node.true refl);
    }

pub loop-depth-preserved : goal.loop-depth-preserved
loop-depth-preserved c =
    let there : At c.self.inside.nodes.items (c.in-Some.id.0) c.index-node.result.now = record { within = c.loop-depth.invariant.within _ c.in-Some.is; is = sym c.index-node.ensures } in
    record {
      within = λ id e. (c.self.invariant.0.below _ _ id there e).within;
      pending = λ h.
          Pending-match _ _ _ _ _ _ _ (Pending-some _ _ _ _ _ _ c.in-Some.is (c.loop-depth.invariant.pending h)) c.self.invariant.0 there
          c.loop-depth-test.true c.if-node-text.false (rw c.if-node.false refl);
    }

pub returns-in-None : goal.returns-in-None
returns-in-None c words t h = Pending-none _ _ _ _ _ (c.loop-depth.invariant.pending (rw c.self.view_is h)) c.in-None.is words (rw c.self.view_is t)

pub returns : goal.returns
returns c words t h = Pending-end _ _ _ _ _ (c.loop-depth.invariant.pending (rw c.self.view_is h)) c.loop-depth-test.false words (rw c.self.view_is t)

pub overflow_add-bytes : goal.overflow_add-bytes
overflow_add-bytes c =
    let ends = run_ends _ _ _ _ _ c.self.invariant.1 (c.loop-depth.invariant.within _ c.in-Some.is) c.index-run.ensures in
    let len = c.self.inside.bytes.ok in
    let small = c.self.inside.bytes.small in
    let fits : c.in-Some.id.0 + c.index-run.result.now < 18446744073709551616 = omega (arith, len.0, len.1) in
    search rules

pub slice_bounds-bytes-end : goal.slice_bounds-bytes-end
slice_bounds-bytes-end c =
    let ends = run_ends _ _ _ _ _ c.self.invariant.1 (c.loop-depth.invariant.within _ c.in-Some.is) c.index-run.ensures in
    let within : c.in-Some.id.0 + c.index-run.result.now ≤ length c.deref.result.now = omega (arith, ap length c.deref.ensures.value) in
    search rules

pub returns-then-not-begins_with : goal.returns-then-not-begins_with
returns-then-not-begins_with c words t h =
    Pending-compared _ _ _ _ c.args.text.now _ _ c.loop-depth.depth _ _ _ _ false c.self.invariant.0 c.self.invariant.1
    (c.loop-depth.invariant.pending (rw c.self.view_is h)) c.in-Some.is c.index-run.ensures c.deref.ensures.value (omega arith) c.begins_with.ensures c.if-not-begins_with.true
    words (rw c.self.view_is t)

pub loop-depth-preserved-else-not-begins_with : goal.loop-depth-preserved-else-not-begins_with
loop-depth-preserved-else-not-begins_with c = record {
  within = named_within _ _ (run_below _ _ _ _ _ c.self.invariant.0 c.self.invariant.1 (c.loop-depth.invariant.within _ c.in-Some.is) c.index-run.ensures);
  pending = λ h.
      Pending-compared _ _ _ _ c.args.text.now _ _ c.loop-depth.depth _ _ _ _ true c.self.invariant.0 c.self.invariant.1
      (c.loop-depth.invariant.pending h) c.in-Some.is c.index-run.ensures c.deref.ensures.value (omega arith) c.begins_with.ensures c.if-not-begins_with.false
      _ _ refl refl;
}
