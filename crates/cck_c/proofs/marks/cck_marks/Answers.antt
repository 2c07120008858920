use Rattle.std.proofs.Common.{◌≡◌, subst, map, take, rules}
use Rattle.cck_include.specs.Markers.{Yields, Unread}
use Rattle.cck_c.specs.Marks.{mark_in, unread_in}
use Rattle.cck_c.proofs.MarkLemmas.{gives_to_end}
use Rattle.cck_c.proofs.marks.cck_marks.Goals as goal
use Rattle.cck_c.proofs.marks.cck_marks.Goals.{else-loop-count-test, then-loop-count-test+in_default}

pub returns-clause-read : goal.returns-clause-read
returns-clause-read c =
    let start = unread_in c.args.unread.now in
    let marks = map mark_in (take c.loop-count.count c.loop-count.marks) in
    let read : Yields start marks c.loop-count-test.markers =
    elim c.loop-count-test.branch [
      | else-loop-count-test w ↦ rw w.markers-is c.loop-count.invariant.read
      | then-loop-count-test+in_default w ↦ rw w.markers-is (gives_to_end start c.loop-count.markers w.next.new.self marks c.loop-count.invariant.read w.in_default.ensures.steps.0 w.in_default.ensures.steps.1)
    ] in
    let same : c.loop-count-test.markers ≡ unread_in (record { text = c.unread-starts_line.result.0; starts_line = c.from.result }) = search rules in
    subst (λ (u : Unread). Yields start marks u) same read
