use Rattle.std.proofs.Common.{◌≡◌, ◌++◌, List, take}
use Rattle.std.specs.List.{flat_map}
use Rattle.cck_files.specs.Calls.{Keeps}
use Rattle.cck_include.specs.Include.{includes_in}
use Rattle.cck_include.specs.JudgeContext.{setting_of}
use Rattle.cck_entry.specs.Known.{AreKnown}
use Rattle.cck_explain.specs.Judged.{AreJudged, IsCalm, Judged}
use Rattle.cck_explain.specs.Note.{include_line}
use Rattle.cck_explain.proofs.note.push_includes.Given as goal

-- the includes so far are judged, and the lines of those that differ are appended
abbrev pub invariant-loop-include : goal.invariant-loop-include
invariant-loop-include g l =
    let F = g.F.Files in
    let s = setting_of g.H.HashState.hash l.context in
    let old = F.file_map l.fn.files in
    record {
      keeps : Keeps F.file_map F.faults F.is_quiet l.fn.files l.files;
      known : AreKnown s old l.fn.known → AreKnown s old l.known;
      lines : IsCalm F.faults F.is_quiet l.fn.files → AreKnown s old l.fn.known
          → (judged : List Judged) × AreJudged s old (includes_in (take l.include-index l.includes)) judged × (l.lines.items ≡ l.fn.lines.items ++ flat_map include_line judged);
    }
