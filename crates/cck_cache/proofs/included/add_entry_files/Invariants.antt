use Rattle.cck_cache.specs.Included.{IsIncluded}
use Rattle.cck_cache_files.specs.Snapshot.{SnapshotGrows}
use Rattle.cck_cache.proofs.included.add_entry_files.Given as goal

-- the snapshot has grown by the files of the results so far
abbrev pub invariant-loop-result : goal.invariant-loop-result
invariant-loop-result g l = SnapshotGrows (IsIncluded l.entry) l.fn.files l.files
