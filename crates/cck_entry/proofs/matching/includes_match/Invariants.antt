use Rattle.std.proofs.Common.{◌≡◌, drop}
use Rattle.std.specs.List.{list_all}
use Rattle.cck_files.specs.Calls.{Keeps}
use Rattle.cck_include.specs.Include.{includes_in}
use Rattle.cck_entry.specs.Known.{AreKnown}
use Rattle.cck_entry.specs.Matching.{matches}
use Rattle.cck_include.specs.JudgeContext.{setting_of}
use Rattle.cck_entry.proofs.matching.includes_match.Given as goal

abbrev pub invariant-loop-include : goal.invariant-loop-include
invariant-loop-include g l =
    let F = g.F.Files in
    let s = setting_of g.H.HashState.hash l.context in
    let right = AreKnown s (F.file_map l.fn.files) l.fn.known in
    record {
      keeps : Keeps F.file_map F.faults F.is_quiet l.fn.files l.files;
      known : right → AreKnown s (F.file_map l.fn.files) l.known;
      rest : right → list_all (matches s (F.file_map l.fn.files)) (includes_in (drop l.include-index l.includes)) ≡ list_all (matches s (F.file_map l.fn.files)) (includes_in l.includes);
    }
