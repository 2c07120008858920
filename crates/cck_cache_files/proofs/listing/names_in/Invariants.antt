use Rattle.cck_cache_files.specs.Listing.{AreFileNames}
use Rattle.cck_cache_files.proofs.listing.names_in.Given as goal

-- the names so far are names
abbrev pub invariant-loop-entry : goal.invariant-loop-entry
invariant-loop-entry g l = AreFileNames l.names.items
