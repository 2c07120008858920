-- marks that are read some at a time
use Rattle.std.proofs.Common.{List, [], subst, append-nil}
use Rattle.cck_include.specs.Marks.{Mark}
use Rattle.cck_include.specs.Markers.{Yields, MarksLeft, Unread}
use Rattle.cck_include.proofs.ItemLemmas.{gives_both}
use Rattle.cck_include.proofs.OneList.{one_list}

-- between two rests without marks there is none
nothing_between : (old new : Unread) → MarksLeft old [] → MarksLeft new [] → Yields old [] new
nothing_between old new before after marks left =
    subst (λ (all : List Mark). MarksLeft old all) (one_list new.starts_line new.text [] marks after left) before

-- after the last mark the rest has no more
pub gives_to_end : (start old new : Unread) (marks : List Mark) → Yields start marks old → MarksLeft old [] → MarksLeft new [] → Yields start marks new
gives_to_end start old new marks given before after =
    subst (λ (all : List Mark). Yields start all new) (append-nil marks)
    (gives_both start old new marks [] given (nothing_between old new before after))
