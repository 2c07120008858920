use Rattle.std.proofs.Common.{length, map}
use Rattle.cck_files.specs.Calls.{Keeps}
use Rattle.cck_files.specs.FileState.{FileState, IsQuiet, fault_count}
use Rattle.cck_cache_files.proofs.CopyLemmas.{KnownBelow}
use Rattle.cck_cache_files.proofs.copies.known_files_of.Given as goal

-- the files of the names so far
abbrev pub invariant-loop-name : goal.invariant-loop-name
invariant-loop-name l = record {
  keeps : Keeps (λ (s : FileState). s.files) fault_count IsQuiet l.fn.files l.files;
  known : KnownBelow l.fn.files.files l.directory (map (λ k. k.items) l.names.keys) (length l.yielded) l.known.items;
}
