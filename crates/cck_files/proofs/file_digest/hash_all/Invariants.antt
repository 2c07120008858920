use Rattle.std.proofs.Common.{◌≡◌, Some, map, take}
use Rattle.std.specs.Prelude.{string_bytes}
use Rattle.cck_files.specs.Calls.{Keeps}
use Rattle.cck_files.specs.FileDigest.{paths_of, texts}
use Rattle.cck_files.proofs.file_digest.hash_all.Given as goal

-- the hex digests so far
abbrev pub invariant-loop-path : goal.invariant-loop-path
invariant-loop-path g l = let F = g.F.Files in record {
  keeps : Keeps F.file_map F.faults F.is_quiet l.fn.files l.files;
  claim : texts g.H.HashState.hash (F.file_map l.fn.files) (take l.path-index (paths_of l.paths)) ≡ Some (map string_bytes l.all.items);
}
