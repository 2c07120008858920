use Rattle.std.proofs.Common.{◌≡◌, ◌+◌, ◌≤◌, ◌++◌, length, map, option_map}
use Rattle.std.specs.List.{filter_map}
use Rattle.cck_command.specs.Script.{line_in, commands_of, wrong_from, wrong_line}
use Rattle.cck_script.specs.Seen.{line_of}
use Rattle.cck_command.proofs.ScriptLemmas.{readings_left}
use Rattle.cck_command.proofs.WordLemmas.{left_size}
use Rattle.cck_command.proofs.script.Script.parse.Given as goal

abbrev pub invariant-loop-left : goal.invariant-loop-left
invariant-loop-left l = record {
  bound : l.number + left_size (option_map (λ r. r.now) l.left) ≤ length l.fn.text + 1;
  wrong : wrong_line l.fn.text ≡ wrong_from (l.number + 1) (readings_left (option_map (λ r. r.now) l.left));
  lines : commands_of l.fn.text ≡ map line_of l.commands.items ++ filter_map line_in (readings_left (option_map (λ r. r.now) l.left));
}

abbrev pub decreases-loop-left : goal.decreases-loop-left
decreases-loop-left l = left_size (option_map (λ r. r.now) l.left)
