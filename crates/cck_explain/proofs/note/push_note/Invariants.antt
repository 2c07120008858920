use Rattle.std.proofs.Common.{◌≡◌, ◌++◌, List, map, take}
use Rattle.std.specs.List.{AllZip, flat_map}
use Rattle.cck_files.specs.Calls.{Keeps}
use Rattle.cck_include.specs.JudgeContext.{setting_of}
use Rattle.cck_path.specs.Bytes.{Bytes}
use Rattle.cck_explain.specs.Judged.{IsCalm}
use Rattle.cck_explain.specs.Note.{IsCallNoted, opening_lines, store_call}
use Rattle.cck_explain.proofs.note.push_note.Given as goal

-- the lines of the gets and puts so far are appended to the first lines
abbrev pub invariant-loop-call : goal.invariant-loop-call
invariant-loop-call g l =
    let F = g.F.Files in
    let s = setting_of g.H.HashState.hash l.context in
    let old = F.file_map l.fn.files in
    record {
      keeps : Keeps F.file_map F.faults F.is_quiet l.fn.files l.files;
      lines : IsCalm F.faults F.is_quiet l.fn.files
          → (texts : List Bytes) × AllZip (IsCallNoted s old) (map store_call (take l.call-index l.calls)) texts
          × (l.lines.items ≡ (l.fn.lines.items ++ opening_lines (map store_call l.calls)) ++ flat_map (λ t. t) texts);
    }
