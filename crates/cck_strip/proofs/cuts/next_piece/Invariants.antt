use Rattle.std.proofs.Common.{◌≡◌, ◌-◌, length}
use Rattle.cck_strip.specs.Pieces.{IsPassed}
use Rattle.cck_strip.proofs.cuts.next_piece.Given as goal

-- no site so far
abbrev pub invariant-loop-place : goal.invariant-loop-place
invariant-loop-place g l = record {
  passed : IsPassed (g.S.Sites.site l.sites) (length l.text) l.copied l.from;
  same : l.progress ≡ l.initial.progress;
}

abbrev pub decreases-loop-place : goal.decreases-loop-place
decreases-loop-place g l = length l.text - l.from
