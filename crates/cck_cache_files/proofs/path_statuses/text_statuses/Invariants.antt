use Rattle.cck_cache_files.specs.PathStatuses.{AreStatusesBefore}
use Rattle.cck_cache_rules.specs.PathStatus.{statuses_of}
use Rattle.cck_cache_files.proofs.path_statuses.text_statuses.Given as goal

-- the statuses so far are of before the time
abbrev pub invariant-loop-path : goal.invariant-loop-path
invariant-loop-path g l = AreStatusesBefore l.since (statuses_of l.statuses.items)
