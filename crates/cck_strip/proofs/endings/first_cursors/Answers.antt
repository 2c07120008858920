use Rattle.std.proofs.Common.{◌≡◌, None, refl}
use Rattle.std.proofs.lemmas.List.Elements.{All-push}
use Rattle.cck_strip.proofs.endings.first_cursors.Goals as goal

pub loop-word-preserved : goal.loop-word-preserved
loop-word-preserved c =
    rw c.in_ok-push.ensures.items (All-push (λ cursor. cursor.state ≡ None) c.loop-word.cursors.items _ c.loop-word.invariant refl)
