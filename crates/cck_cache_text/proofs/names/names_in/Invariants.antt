use Rattle.std.proofs.Common.{◌≡◌, ◌⊎◌, List, IsTrue, length}
use Rattle.std.specs.Option.{is_some}
use Rattle.cck_include.specs.Marks.{Mark}
use Rattle.cck_include.specs.Markers.{Yields, unread_text}
use Rattle.cck_cache_text.specs.Names.{AreNames, first_of_name}
use Rattle.cck_cache_text.proofs.names.names_in.Given as goal

-- the names of the marks so far, among which the last one is
abbrev pub invariant-loop-mark : goal.invariant-loop-mark
invariant-loop-mark l = (done : List Mark) × Yields (unread_text l.text) done l.mark-iterator × AreNames done l.named × ((length l.last ≡ 0) ⊎ IsTrue (is_some (first_of_name l.last done)))
