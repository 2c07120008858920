use Rattle.std.proofs.Common.{◌≡◌}
use Rattle.cck_cache.proofs.changed.changed_in.Given as goal

abbrev pub invariant-loop-found : goal.invariant-loop-found
invariant-loop-found l = l.files.files ≡ l.fn.files.files
