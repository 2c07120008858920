use Rattle.std.proofs.Common.{All}
use Rattle.cck_cache_files.specs.Listing.{IsFileBelow}
use Rattle.cck_cache_files.proofs.listing.list_files.Given as goal

-- the files so far are in directories of the one of the kind
abbrev pub invariant-loop-name : goal.invariant-loop-name
invariant-loop-name g l = All (IsFileBelow l.directory) l.files.items
