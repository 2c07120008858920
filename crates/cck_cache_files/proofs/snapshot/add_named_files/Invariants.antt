use Rattle.std.proofs.Common.{List}
use Rattle.cck_include.specs.Marks.{Mark}
use Rattle.cck_include.specs.Markers.{Yields, unread_text}
use Rattle.cck_cache_files.specs.PathStates.{KeepsStates}
use Rattle.cck_cache_files.specs.Snapshot.{SnapshotGrows, IsNamedFile}
use Rattle.cck_cache_files.proofs.snapshot.add_named_files.Given as goal

-- the files of the marks so far, and the states that were kept
abbrev pub invariant-loop-mark : goal.invariant-loop-mark
invariant-loop-mark g l = (done : List Mark) × Yields (unread_text l.text) done l.mark-iterator × SnapshotGrows (IsNamedFile done l.cwd) l.fn.files l.files × KeepsStates l.fn.states l.states
