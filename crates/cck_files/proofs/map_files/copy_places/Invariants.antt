use Rattle.std.proofs.Common.{length}
use Rattle.cck_path.specs.Entries.{entries_left}
use Rattle.cck_files.proofs.PlacesLemmas.{IsCopied}
use Rattle.cck_files.proofs.map_files.copy_places.Given as goal

-- the copy holds what the first places hold
abbrev pub invariant-loop-entry : goal.invariant-loop-entry
invariant-loop-entry l = IsCopied (entries_left l.initial.entry-iterator) (length l.yielded) l.copy
