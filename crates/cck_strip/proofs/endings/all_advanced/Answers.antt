use Rattle.std.proofs.Common.{◌∙◌, ap}
use Rattle.cck_strip.proofs.EndingLemmas.{All-noted, if_some}
use Rattle.cck_strip.proofs.endings.all_advanced.Goals as goal
use Rattle.cck_strip.proofs.endings.all_advanced.Goals.{in-Some+in_ok-push, in_default}

pub loop-cursor-preserved : goal.loop-cursor-preserved
loop-cursor-preserved c = record {
  links = c.advanced.ensures.links;
  read = elim c.match-advanced.branch [
    | in-Some+in_ok-push w ↦
        All-noted _ _ _ _ _ c.loop-cursor.invariant.read (ap (λ v. v.items) w.all-is ∙ w.in_ok-push.ensures.items) (if_some _ _ _ w.in-Some.is c.advanced.ensures.read)
    | in_default w ↦ rw w.all-is c.loop-cursor.invariant.read
  ];
}
