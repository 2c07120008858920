use Rattle.std.proofs.Common.{◌≡◌, ◌++◌, drop, map}
use Rattle.std.specs.List.{filter_map}
use Rattle.cck_path.specs.Bytes.{lists_of}
use Rattle.cck_command.specs.Script.{basedir_of_command, basedirs_of, fail_of, fail_of_command, forget_of, forget_of_command, last_or, zone_of, zone_of_command}
use Rattle.cck_command.specs.ScriptSeen.{lines_of}
use Rattle.cck_script.specs.Seen.{line_of}
use Rattle.cck_command.proofs.script.Script.options.Given as goal

abbrev pub invariant-loop-command : goal.invariant-loop-command
invariant-loop-command l = let left = map line_of (drop l.command-index l.command-items) in record {
  zone : zone_of (lines_of l.fn.self) ≡ last_or l.options.zone_offset zone_of_command left;
  basedirs : basedirs_of (lines_of l.fn.self) ≡ lists_of l.options.basedirs.items ++ filter_map basedir_of_command left;
  forget : forget_of (lines_of l.fn.self) ≡ last_or l.options.forget_at forget_of_command left;
  fail : fail_of (lines_of l.fn.self) ≡ last_or l.options.fail_at fail_of_command left;
}
