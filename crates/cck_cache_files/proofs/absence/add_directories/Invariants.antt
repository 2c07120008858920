use Rattle.std.proofs.Common.{◌≡◌, ◌++◌, length, map, take}
use Rattle.cck_cache_rules.specs.PathTest.{Directory, tests_of}
use Rattle.cck_path.specs.Bytes.{lists_of}
use Rattle.cck_cache_files.proofs.absence.add_directories.Given as goal

-- the tests of the paths so far were added
abbrev pub invariant-loop-path : goal.invariant-loop-path
invariant-loop-path l = tests_of l.tests.items ≡ tests_of l.fn.tests.items ++ map Directory (take (length l.yielded) (lists_of l.paths.keys))
