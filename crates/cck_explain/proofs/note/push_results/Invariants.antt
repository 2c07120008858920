use Rattle.std.proofs.Common.{◌≡◌, ◌++◌, List, map, reverse}
use Rattle.std.specs.Prelude.{String}
use Rattle.std.specs.Global.{Vec}
use Rattle.std.specs.Iterator.Adapters.{rev_source}
use Rattle.std.specs.List.{flat_map}
use Rattle.std.specs.declared.alloc.Global.{Global}
use Rattle.cck_entry.specs.Results.{result_in}
use Rattle.cck_files.specs.Calls.{Keeps}
use Rattle.cck_include.specs.JudgeContext.{setting_of}
use Rattle.cck_entry.specs.Known.{AreKnown}
use Rattle.cck_include.specs.declared.include.IncludeEntry.{IncludeEntry}
use Rattle.cck_explain.specs.Judged.{AreJudgedResults, IsCalm, JudgedResult}
use Rattle.cck_explain.specs.Note.{result_lines}
use Rattle.cck_explain.proofs.note.push_results.Given as goal

-- the results from the greatest key down so far are judged, and their lines are appended
abbrev pub invariant-loop-key : goal.invariant-loop-key
invariant-loop-key g l =
    let F = g.F.Files in
    let s = setting_of g.H.HashState.hash l.context in
    let old = F.file_map l.fn.files in
    record {
      can : (goal.iterator-loop-key g).can_next l.key-iterator;
      finite : (goal.iterator-loop-key g).is_finite l.key-iterator;
      keeps : Keeps F.file_map F.faults F.is_quiet l.fn.files l.files;
      known : AreKnown s old l.known;
      rest : List (String Global × Vec IncludeEntry);
      split : l.results.entries ≡ rev_source l.key-iterator ++ rest;
      lines : IsCalm F.faults F.is_quiet l.fn.files
          → (judged : List JudgedResult) × AreJudgedResults s old (reverse (map result_in rest)) judged × (l.lines.items ≡ l.fn.lines.items ++ flat_map result_lines judged);
    }
