use Rattle.std.proofs.Common.{◌≡◌, ◌++◌, drop}
use Rattle.cck_path.specs.Bytes.{lists_of}
use Rattle.cck_explain.specs.Key.{arguments_cut_lines}
use Rattle.cck_explain.proofs.key.push_arguments_cuts.Given as goal

-- with the lines of the arguments that are left, the lines are those of all
abbrev pub invariant-loop-index : goal.invariant-loop-index
invariant-loop-index l =
    l.lines.items ++ arguments_cut_lines (lists_of l.basedirs) l.index (lists_of (drop l.index l.arguments))
    ≡ l.fn.lines.items ++ arguments_cut_lines (lists_of l.basedirs) 0 (lists_of l.arguments)
