use Rattle.cck_files.specs.Calls.{Keeps}
use Rattle.cck_files.specs.FileState.{FileState, IsQuiet, fault_count}
use Rattle.cck_cache_files.proofs.snapshot.has_one.Given as goal

abbrev pub invariant-loop-path : goal.invariant-loop-path
invariant-loop-path l = Keeps (λ (s : FileState). s.files) fault_count IsQuiet l.fn.files l.files
