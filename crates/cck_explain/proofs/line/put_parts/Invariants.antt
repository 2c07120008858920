use Rattle.std.proofs.Common.{drop}
use Rattle.cck_explain.specs.Listing.{listed_parts, part_lines}
use Rattle.cck_explain.proofs.PutLemmas.{PutSoFar}
use Rattle.cck_explain.proofs.line.put_parts.Given as goal

-- the lines of the parts so far were put in, and those of the others are left
abbrev pub invariant-loop-part : goal.invariant-loop-part
invariant-loop-part g l =
    PutSoFar (g.W.Write.contents l.fn.writer) l.fn.buffer.items (g.W.Write.contents l.writer) l.buffer.items
    (part_lines l.offset (listed_parts l.is_full (drop l.part-index l.parts))) (part_lines 0 (listed_parts l.is_full l.parts))
