use Rattle.std.proofs.Common.{IsTrue, length, map}
use Rattle.cck_files.specs.Calls.{Keeps}
use Rattle.cck_files.specs.FileState.{FileState, IsQuiet, fault_count}
use Rattle.cck_cache_files.proofs.ReadOnceLemmas.{SeenBelow}
use Rattle.cck_cache_files.proofs.read_once.has_copies.Given as goal

-- what was seen of the paths so far
abbrev pub invariant-loop-path : goal.invariant-loop-path
invariant-loop-path l = record {
  keeps : Keeps (λ (s : FileState). s.files) fault_count IsQuiet l.fn.files l.files;
  seen : SeenBelow l.fn.files.files (IsTrue l.is_any) (map (λ k. k.items) l.paths.keys) (length l.yielded) l.seen;
}
