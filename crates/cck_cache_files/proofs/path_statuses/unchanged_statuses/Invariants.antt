use Rattle.std.proofs.Common.{◌≡◌, []}
use Rattle.std.specs.FinMap.{empty}
use Rattle.cck_cache_files.specs.PathStatuses.{AreAsRecorded, AreDirectoriesAsRecorded}
use Rattle.cck_cache_rules.specs.PathStatus.{statuses_of}
use Rattle.cck_cache_files.proofs.path_statuses.unchanged_statuses.Given as goal

-- what is known so far is as it was recorded, and nothing where nothing was
abbrev pub invariant-loop-status : goal.invariant-loop-status
invariant-loop-status g l = record { recorded : AreAsRecorded (statuses_of l.statuses) l.files; directories : AreDirectoriesAsRecorded (statuses_of l.statuses) l.directories; none : l.statuses ≡ [] → l.files ≡ empty }
