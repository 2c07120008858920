use Rattle.std.proofs.Common.{◌≡◌, ◌⊎◌, ◌++◌, List, map}
use Rattle.std.specs.Prelude.{String}
use Rattle.std.specs.Global.{Vec}
use Rattle.std.specs.declared.alloc.Global.{Global}
use Rattle.std.specs.Iterator.Adapters.{rev_source}
use Rattle.cck_entry.specs.Find.{found_in}
use Rattle.cck_entry.specs.Results.{result_in}
use Rattle.cck_files.specs.Calls.{Keeps, Rose}
use Rattle.cck_entry.specs.Known.{AreKnown}
use Rattle.cck_entry.specs.Matching.{matches}
use Rattle.cck_include.specs.declared.include.IncludeEntry.{IncludeEntry}
use Rattle.cck_include.specs.JudgeContext.{setting_of}
use Rattle.cck_entry.proofs.lookup.find_result.Given as goal

abbrev pub invariant-loop-key : goal.invariant-loop-key
invariant-loop-key g l =
    let F = g.F.Files in
    let s = setting_of g.H.HashState.hash l.context in
    let matching = matches s (F.file_map l.fn.files) in
    record {
      can : (goal.iterator-loop-key g).can_next l.key-iterator;
      finite : (goal.iterator-loop-key g).is_finite l.key-iterator;
      keeps : Keeps F.file_map F.faults F.is_quiet l.fn.files l.files;
      known : AreKnown s (F.file_map l.fn.files) l.known;
      seen : (rest : List (String Global × Vec IncludeEntry)) × (l.results.entries ≡ rev_source l.key-iterator ++ rest);
      so_far : (found_in matching (map result_in (rev_source l.key-iterator)) ≡ found_in matching (map result_in l.results.entries)) ⊎ Rose (F.faults l.fn.files) (F.faults l.files);
    }
