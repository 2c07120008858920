use Rattle.std.proofs.Common.{length, map}
use Rattle.std.specs.Prelude.{vec_items}
use Rattle.cck_path.specs.Path.{components}
use Rattle.cck_path.specs.Entries.{entries_left}
use Rattle.cck_files.proofs.NamesLemmas.{IsListed}
use Rattle.cck_files.proofs.child.child_names.Given as goal

-- the names of the children among the first entries
abbrev pub invariant-loop-entry : goal.invariant-loop-entry
invariant-loop-entry g l = IsListed (components l.folder) (entries_left l.initial.entry-iterator) (length l.yielded) (map vec_items l.names.items)
