use Rattle.std.proofs.Common.{◌≡◌, ◌++◌, ◌<◌, ◌≤◌, ◌-◌, drop, false, length, take, true}
use Rattle.cck_strip.specs.Pieces.{IsPassed, stripped_from}
use Rattle.cck_strip.proofs.into.cut_into.Given as goal

-- what is written so far and what remains from there on is all that remains, after a cut fewer bytes are written than
-- were passed, and the rest of the buffer is as before
abbrev pub invariant-loop-piece : goal.invariant-loop-piece
invariant-loop-piece g l = record {
  passed : IsPassed (g.S.Sites.site l.sites) (length l.text) l.progress.copied l.progress.from;
  whole : take l.written l.buffer ++ stripped_from (g.S.Sites.site l.sites) l.text l.progress.copied ≡ stripped_from (g.S.Sites.site l.sites) l.text 0;
  within : l.written ≤ l.progress.copied;
  uncut : l.progress.is_cut ≡ false → (l.progress.copied ≡ 0) × (l.written ≡ 0);
  shorter : l.progress.is_cut ≡ true → l.written < l.progress.copied;
  rest : drop l.written l.buffer ≡ drop l.written l.initial.buffer;
  size : length l.buffer ≡ length l.initial.buffer;
}

abbrev pub decreases-loop-piece : goal.decreases-loop-piece
decreases-loop-piece g l = length l.text - l.progress.copied
