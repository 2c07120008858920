use Rattle.std.proofs.Common.{◌≡◌, ◌≤◌, take, drop, length}
use Rattle.std.specs.Prelude.{vec_capacity, vec_len}
use Rattle.std.specs.List.{AllZip}
use Rattle.cck_path.specs.Bytes.{lists_of}
use Rattle.jiff.specs.Words.{plain_zone}
use Rattle.c_cache_keys.specs.Calls.{AreReturned, IsAfter}
use Rattle.cck_hasher.specs.World.{world_of}
use Rattle.c_cache_keys.proofs.calls.run_calls.Given as goal

-- the calls made so far, those that are left, and the room for their results
abbrev pub invariant-loop-call : goal.invariant-loop-call
invariant-loop-call g l = let F = g.F.Files in record {
  results_returned : AreReturned g.I.CCompilerImpl.value F.file_map F.faults
      (world_of g.H.HashState.hash g.I.CCompilerImpl.compiler (plain_zone l.fn.zone) l.fn.config (lists_of l.fn.basedirs)) g.S.PreprocessorStore.store l.fn.store
      (take l.call-index l.fn.calls) (take l.call-index l.calls) l.call_results.items l.store;
  rest : drop l.call-index l.calls ≡ drop l.call-index l.fn.calls;
  after : AllZip (IsAfter F.file_map F.faults F.is_quiet) l.fn.calls l.calls;
  count : vec_len l.call_results ≡ l.call-index;
  room : length l.fn.calls ≤ vec_capacity l.call_results;
}
