use Rattle.cck_cache_files.specs.Listing.{AddsFilesIn}
use Rattle.cck_cache_files.proofs.listing.add_files.Given as goal

-- files of the directory were added
abbrev pub invariant-loop-name : goal.invariant-loop-name
invariant-loop-name g l = AddsFilesIn l.directory l.fn.files.items l.files.items
