use Rattle.cck_cache_files.specs.PathStatuses.{AreStatusesBefore}
use Rattle.cck_cache_rules.specs.PathStatus.{statuses_of}
use Rattle.cck_cache_files.proofs.path_statuses.add_directory_statuses.Given as goal

-- where the statuses at first are of before the time, so are those so far
abbrev pub invariant-loop-test : goal.invariant-loop-test
invariant-loop-test g l = AreStatusesBefore l.since (statuses_of l.initial.statuses.items) → AreStatusesBefore l.since (statuses_of l.statuses.items)
