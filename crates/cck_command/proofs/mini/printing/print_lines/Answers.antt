use Rattle.std.proofs.Common.{ℕ, ◌+◌, List, Option, ap, arith}
use Rattle.cck_path.specs.Bytes.{Bytes}
use Rattle.cck_files.proofs.CallsLemmas.{keeps_all}
use Rattle.cck_command.specs.MiniPrinted.{include_name, line_text, lines_in, lines_text}
use Rattle.cck_command.specs.MiniSeen.{macros_seen}
use Rattle.cck_command.proofs.LineLemmas.{line_more}
use Rattle.cck_command.proofs.mini.printing.print_lines.Goals as goal

pub loop-left-preserved : goal.loop-left-preserved
loop-left-preserved g c =
    let F = g.F.Files in
    let map = F.file_map c.args.files.now in
    let m = macros_seen c.args.macros.now in
    let front = c.cut_line-line.result.front.now in
    let line = line_text c.args.job.now.zone_offset c.args.job.now.moment map c.args.job.now.cwd.now c.args.job.now.path.now m (include_name front) (front, c.cut_line-line.result.ending.now) c.loop-left.number in
    let text : ℕ → List (Bytes × Bytes) → Option Bytes = lines_text c.args.job.now.zone_offset c.args.job.now.moment map c.args.job.now.cwd.now c.args.job.now.path.now m in
    record {
      keeps = keeps_all c.args.files.now c.loop-left.files c.print_line.new.files c.loop-left.invariant.keeps c.in_ok-print_line.ensures.keeps;
      bound = omega (arith, c.loop-left.invariant.bound, c.cut_line-line.ensures.less);
      text = line_more (text 2 (lines_in c.args.contents.now)) c.args.out.now.items c.loop-left.out.items c.print_line.new.out.items
          (text c.loop-left.number (lines_in c.loop-left.left.now)) line (text (c.loop-left.number + 1) (lines_in c.cut_line-line.result.rest.now))
          c.loop-left.invariant.text (ap (text c.loop-left.number) c.cut_line-line.ensures.line)
          (rw c.loop-left.invariant.keeps.same_map at c.in_ok-print_line.ensures.outcome);
    }
