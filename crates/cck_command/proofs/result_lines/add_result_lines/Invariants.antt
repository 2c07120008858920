use Rattle.std.proofs.Common.{◌≡◌, ◌++◌, map, take}
use Rattle.std.specs.List.{flat_map}
use Rattle.cck_hasher.specs.Seen.{result_of}
use Rattle.cck_command.specs.Run.{result_line}
use Rattle.cck_command.proofs.result_lines.add_result_lines.Given as goal

abbrev pub invariant-loop-call_result : goal.invariant-loop-call_result
invariant-loop-call_result l = l.lines.items ≡ l.fn.lines.items ++ flat_map result_line (map result_of (take l.call_result-index l.call_results))
