use Rattle.std.proofs.Common.{◌-◌, ◌≤◌, length}
use Rattle.cck_strip.proofs.CutListLemmas.{Walked}
use Rattle.cck_strip.proofs.cut_list.cuts_in.Given as goal

-- the cuts before the place
abbrev pub invariant-loop-at : goal.invariant-loop-at
invariant-loop-at g l = record {
  walked : Walked (g.S.Sites.site l.sites) l.at l.cuts.items;
  within : l.at ≤ length l.text;
}

abbrev pub decreases-loop-at : goal.decreases-loop-at
decreases-loop-at g l = length l.text - l.at
