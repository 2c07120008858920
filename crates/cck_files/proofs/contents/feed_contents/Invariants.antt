use Rattle.std.proofs.Common.{◌≡◌, [], length, ◌-◌}
use Rattle.std.specs.Result.{result_unwrap_or}
use Rattle.cck_digest.specs.Stream.{IsPiece}
use Rattle.cck_path.specs.Path.{components}
use Rattle.cck_files.specs.FileMap.{contents_at}
use Rattle.cck_files.specs.Calls.{AreCalls, Keeps}
use Rattle.cck_files.proofs.ReadLemmas.{IsFed}
use Rattle.cck_files.proofs.contents.feed_contents.Given as goal

-- the sink took the contents up to the offset
abbrev pub invariant-loop-count : goal.invariant-loop-count
invariant-loop-count g l = let F = g.F.Files in record {
  keeps : Keeps F.file_map F.faults F.is_quiet l.fn.files l.files;
  calls : AreCalls F.is_call (λ p. p ≡ components l.path) l.fn.files l.files;
  room : IsPiece l.buffer;
  fed : IsFed g.S.Sink.takes l.fn.sink l.sink l.offset (result_unwrap_or (contents_at (F.file_map l.fn.files) (components l.path)) []);
}

-- what is left of the contents
abbrev pub decreases-loop-count : goal.decreases-loop-count
decreases-loop-count g l = length (result_unwrap_or (contents_at (g.F.Files.file_map l.fn.files) (components l.path)) []) - l.offset
