use Rattle.std.proofs.Common.{◌≡◌, ◌⊎◌, ◌++◌, List, map}
use Rattle.std.specs.Iterator.Adapters.{rev_source}
use Rattle.std.specs.Slice.Iter.{iter_rest}
use Rattle.cck_entry.specs.Find.{found_in}
use Rattle.cck_entry.specs.Statuses.{matches_with}
use Rattle.cck_entry.specs.Lent.{result_lent}
use Rattle.cck_entry.specs.declared.result_ref.ResultRef.{ResultRef}
use Rattle.cck_files.specs.Calls.{Keeps, Rose}
use Rattle.cck_entry.specs.Known.{AreKnown}
use Rattle.cck_include.specs.JudgeContext.{setting_of}
use Rattle.cck_entry.proofs.lookup.find_lent.Given as goal

abbrev pub invariant-loop-lent : goal.invariant-loop-lent
invariant-loop-lent g l =
    let F = g.F.Files in
    let s = setting_of g.H.HashState.hash l.context in
    let matching = matches_with l.statuses s (F.file_map l.fn.files) in
    let left = iter_rest (rev_source l.lent-iterator) in
    record {
      keeps : Keeps F.file_map F.faults F.is_quiet l.fn.files l.files;
      known : AreKnown s (F.file_map l.fn.files) l.known;
      seen : (rest : List ResultRef) × (l.results ≡ left ++ rest);
      so_far : (found_in matching (map result_lent left) ≡ found_in matching (map result_lent l.results)) ⊎ Rose (F.faults l.fn.files) (F.faults l.files);
    }
