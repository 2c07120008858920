use Rattle.std.proofs.Common.{◌+◌, ◌≤◌, length}
use Rattle.cck_files.specs.Calls.{Keeps}
use Rattle.cck_command.specs.MiniPrinted.{lines_in, lines_text}
use Rattle.cck_command.specs.MiniSeen.{macros_seen}
use Rattle.cck_command.proofs.LineLemmas.{IsSoFar}
use Rattle.cck_command.proofs.mini.printing.print_lines.Given as goal

abbrev pub invariant-loop-left : goal.invariant-loop-left
invariant-loop-left g l =
    let F = g.F.Files in
    let text = lines_text l.job.zone_offset l.job.moment (F.file_map l.fn.files) l.job.cwd.now l.job.path.now (macros_seen l.macros) in
    record {
      keeps : Keeps F.file_map F.faults F.is_quiet l.fn.files l.files;
      bound : l.number + length l.left ≤ length l.contents + 2;
      text : IsSoFar (text 2 (lines_in l.contents)) l.fn.out.items l.out.items (text l.number (lines_in l.left));
    }

abbrev pub decreases-loop-left : goal.decreases-loop-left
decreases-loop-left g l = length l.left
