use Rattle.std.proofs.Common.{◌≡◌}
use Rattle.std.specs.List.{list_all}
use Rattle.cck_files.specs.Calls.{Keeps}
use Rattle.cck_include.specs.JudgeContext.{setting_of}
use Rattle.cck_entry.specs.Known.{AreKnown}
use Rattle.cck_entry.specs.Lent.{result_lent}
use Rattle.cck_entry.specs.Statuses.{matches_with}
use Rattle.cck_entry.proofs.lookup.lent_matches.Given as goal

abbrev pub invariant-loop-include : goal.invariant-loop-include
invariant-loop-include g l =
    let F = g.F.Files in
    let s = setting_of g.H.HashState.hash l.context in
    let right = AreKnown s (F.file_map l.fn.files) l.fn.known in
    let matching = matches_with l.statuses s (F.file_map l.fn.files) in
    record {
      can : (goal.iterator-loop-include g).can_next l.include-iterator;
      finite : (goal.iterator-loop-include g).is_finite l.include-iterator;
      keeps : Keeps F.file_map F.faults F.is_quiet l.fn.files l.files;
      known : right → AreKnown s (F.file_map l.fn.files) l.known;
      left : right → list_all matching l.include-iterator ≡ list_all matching (result_lent l.lent).1;
    }
