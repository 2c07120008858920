use Rattle.std.proofs.Common.{◌≡◌, ◌+◌, length}
use Rattle.cck_explain.specs.Key.{part}
use Rattle.cck_explain.specs.Listing.{part_lines, rows}
use Rattle.cck_explain.proofs.PutLemmas.{PutSoFar}
use Rattle.cck_explain.proofs.line.put_rows.Given as goal

-- the lines of the rows before the place were put in, and those of the rest are left
abbrev pub invariant-loop-rest : goal.invariant-loop-rest
invariant-loop-rest g l = record {
  put : PutSoFar (g.W.Write.contents l.fn.writer) l.fn.buffer.items (g.W.Write.contents l.writer) l.buffer.items
      (part_lines l.at (rows (part l.part.name l.rest))) (part_lines l.offset (rows l.part));
  place : l.at + length l.rest ≡ l.offset + length l.part.bytes;
}

abbrev pub decreases-loop-rest : goal.decreases-loop-rest
decreases-loop-rest g l = length l.rest
