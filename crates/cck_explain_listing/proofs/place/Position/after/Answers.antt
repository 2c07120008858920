use Rattle.std.proofs.Common.{arith}
use Rattle.cck_explain_listing.proofs.PlaceLemmas.{feed_more, other_more}
use Rattle.cck_explain_listing.proofs.place.Position.after.Goals as goal
use Rattle.cck_explain_listing.proofs.place.Position.after.Goals.{then-byte-eq10, else-byte-eq10}

pub loop-byte-preserved : goal.loop-byte-preserved
loop-byte-preserved c =
    let i = c.loop-byte.byte-index in
    let line = c.loop-byte.line in
    let column = c.loop-byte.column in
    elim c.if-byte-eq10.branch [
      | then-byte-eq10 w ↦ record {
        line = omega (arith, c.loop-byte.invariant.line, w.line-is);
        column = omega (arith, c.loop-byte.invariant.column, w.column-is);
        place = λ front begins. rw w.line-is (rw w.column-is (feed_more front c.args.bytes.now i line column c.loop-byte-test.true w.if-byte-eq10.true (c.loop-byte.invariant.place front begins)));
      }
      | else-byte-eq10 w ↦ record {
        line = omega (arith, c.loop-byte.invariant.line, w.line-is);
        column = omega (arith, c.loop-byte.invariant.column, w.column-is);
        place = λ front begins. rw w.line-is (rw w.column-is (other_more front c.args.bytes.now i line column c.loop-byte-test.true w.if-byte-eq10.false (c.loop-byte.invariant.place front begins)));
      }
    ]
