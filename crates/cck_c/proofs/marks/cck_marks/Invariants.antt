use Rattle.std.proofs.Common.{◌≡◌, ◌≤◌, ◌-◌, length, map, take, drop}
use Rattle.cck_include.specs.Markers.{Yields}
use Rattle.cck_c.specs.Marks.{mark_fields, mark_in, stored_mark, unread_in}
use Rattle.cck_c.proofs.marks.cck_marks.Given as goal

-- the marks so far are written, and the rest of the array is as before
abbrev pub invariant-loop-count : goal.invariant-loop-count
invariant-loop-count l = record {
  within : l.count ≤ length l.initial.marks;
  read : Yields (unread_in l.fn.unread) (map mark_in (take l.count l.marks)) l.markers;
  fields : map mark_fields (take l.count l.marks) ≡ map (λ mark. stored_mark (mark_in mark)) (take l.count l.marks);
  kept : drop l.count l.marks ≡ drop l.count l.initial.marks;
}

abbrev pub decreases-loop-count : goal.decreases-loop-count
decreases-loop-count l = length l.initial.marks - l.count
