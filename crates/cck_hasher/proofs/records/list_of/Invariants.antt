use Rattle.std.proofs.Common.{length}
use Rattle.cck_path.specs.Entries.{entries_left}
use Rattle.cck_hasher.proofs.RecordLemmas.{AreListed}
use Rattle.cck_hasher.proofs.records.list_of.Given as goal

-- the first entries were listed
abbrev pub invariant-loop-entry : goal.invariant-loop-entry
invariant-loop-entry l = AreListed (entries_left l.initial.entry-iterator) (length l.yielded) l.files.items
