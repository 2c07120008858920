use Rattle.std.proofs.Common.{◌≡◌, ◌++◌, take}
use Rattle.std.specs.List.{flat_map}
use Rattle.cck_cache_rules.specs.PathStatus.{statuses_of}
use Rattle.cck_cache_store.specs.Listing.{status_line}
use Rattle.cck_cache_store.proofs.listing.push_statuses.Given as goal

-- the lines of the statuses so far
abbrev pub invariant-loop-status : goal.invariant-loop-status
invariant-loop-status l = l.lines.items ≡ l.fn.lines.items ++ flat_map status_line (statuses_of (take l.status-index l.statuses))
