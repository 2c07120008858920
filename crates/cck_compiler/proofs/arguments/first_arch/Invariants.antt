use Rattle.std.proofs.Common.{◌≡◌, drop}
use Rattle.std.specs.List.{find}
use Rattle.cck_path.specs.Bytes.{lists_of}
use Rattle.cck_compiler.specs.Arguments.{is_arch}
use Rattle.cck_compiler.proofs.arguments.first_arch.Given as goal

-- the arguments that are not yet read decide the result
abbrev pub invariant-loop-arg : goal.invariant-loop-arg
invariant-loop-arg l = find is_arch (lists_of (drop l.arg-index l.args)) ≡ find is_arch (lists_of l.args)
