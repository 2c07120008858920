use Rattle.std.proofs.Common.{◌≡◌, ◌++◌, List}
use Rattle.cck_cache.specs.Included.{IsIncludeOf}
use Rattle.cck_cache_files.specs.Snapshot.{SnapshotGrows}
use Rattle.cck_entry.specs.Lent.{result_lent}
use Rattle.cck_include.specs.Include.{Include}
use Rattle.cck_cache.proofs.included.add_includes.Given as goal

abbrev pub invariant-loop-include : goal.invariant-loop-include
invariant-loop-include g l =
    let all = (result_lent l.included).1 in
    record {
      can : (goal.iterator-loop-include g).can_next l.include-iterator;
      finite : (goal.iterator-loop-include g).is_finite l.include-iterator;
      seen : (done : List Include) × (done ++ l.include-iterator ≡ all);
      grown : SnapshotGrows (IsIncludeOf all) l.fn.files l.files;
    }
