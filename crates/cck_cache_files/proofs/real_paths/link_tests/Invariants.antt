use Rattle.std.proofs.Common.{length}
use Rattle.cck_cache_files.proofs.SetLemmas.{IsAmong}
use Rattle.cck_cache_files.specs.RealPaths.{ArePlaced, IsPathOf}
use Rattle.cck_cache_files.proofs.real_paths.link_tests.Given as goal

-- the tests for the names so far
abbrev pub invariant-loop-name : goal.invariant-loop-name
invariant-loop-name g l = ArePlaced (IsPathOf l.directory (IsAmong l.names.keys (length l.yielded))) l.tests
