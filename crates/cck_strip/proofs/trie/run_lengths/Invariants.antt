use Rattle.std.proofs.Common.{◌≡◌, ◌≤◌, ◌+◌, length}
use Rattle.cck_strip.specs.Trie.{IsRun}
use Rattle.cck_strip.proofs.RunLemmas.{RunsFrom}
use Rattle.cck_strip.proofs.trie.run_lengths.Given as goal

abbrev pub invariant-loop-at : goal.invariant-loop-at
invariant-loop-at l = record {
  size : length l.runs.items ≡ length l.nodes;
  fits : l.at + l.run ≤ length l.nodes;
  here : IsRun l.run l.nodes l.at;
  each : RunsFrom l.nodes l.runs.items l.at;
}

abbrev pub decreases-loop-at : goal.decreases-loop-at
decreases-loop-at l = l.at
