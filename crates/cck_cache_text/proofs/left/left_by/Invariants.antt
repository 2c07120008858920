use Rattle.std.proofs.Common.{length}
use Rattle.cck_cache_text.specs.Sets.{Adds}
use Rattle.cck_cache_text.proofs.LeftLemmas.{LeftBy}
use Rattle.cck_cache_text.proofs.SetLemmas.{Below}
use Rattle.cck_cache_text.proofs.left.left_by.Given as goal

-- the directories that the names so far leave were added
abbrev pub invariant-loop-name : goal.invariant-loop-name
invariant-loop-name l = Adds (Below (LeftBy l.directory l.names.keys) (length l.yielded)) l.initial.left l.left
