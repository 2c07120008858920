use Rattle.std.proofs.Common.{◌≡◌, ◌<◌, ◌-◌, ◌+◌, length, length-set, subst, ◌∙◌, arith}
use Rattle.cck_strip.proofs.RunLemmas.{At-get, IsRun-longer, RunsFrom, RunsFrom-set}
use Rattle.cck_strip.proofs.trie.run_lengths.Goals as goal
use Rattle.cck_strip.proofs.trie.run_lengths.Goals.{then-is_straight, else-is_straight}

pub loop-at-preserved : goal.loop-at-preserved
loop-at-preserved c =
    let some = c.loop-at-test.true in
    let fits = c.loop-at.invariant.fits in
    let size = c.loop-at.invariant.size in
    let within : c.loop-at.at - 1 < length c.args.nodes.now = omega arith in
    let before : c.loop-at.at ≡ c.loop-at.at - 1 + 1 = omega arith in
    let each : RunsFrom c.args.nodes.now c.loop-at.runs.items (c.loop-at.at - 1 + 1) = subst (RunsFrom c.args.nodes.now c.loop-at.runs.items) before c.loop-at.invariant.each in
    elim c.if-is_straight.branch [
      | then-is_straight w ↦
          let run = IsRun-longer _ _ _ _ _ c.if-is_straight.run (At-get _ _ _ within) (c.is_straight.ensures.0 w.if-is_straight.true) c.loop-at.invariant.here before w.run-is in
          let is = w.run-is in
          record {
            size = length-set _ _ _ ∙ size;
            fits = omega arith;
            here = run;
            each = RunsFrom-set _ _ _ _ (omega arith) run each;
          }
      | else-is_straight w ↦
          let is = w.run-is in
          record {
            size = length-set _ _ _ ∙ size;
            fits = omega arith;
            here = rw w.run-is tt;
            each = RunsFrom-set _ _ _ _ (omega arith) (rw w.run-is tt) each;
          }
    ]
