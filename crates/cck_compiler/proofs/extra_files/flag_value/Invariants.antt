use Rattle.std.proofs.Common.{◌≡◌, drop}
use Rattle.cck_path.specs.Bytes.{lists_of}
use Rattle.cck_compiler.specs.ExtraFiles.{flag_value}
use Rattle.cck_compiler.proofs.extra_files.flag_value.Given as goal

-- the arguments that are not yet read decide the result
abbrev pub invariant-loop-arg : goal.invariant-loop-arg
invariant-loop-arg l = flag_value l.flag (lists_of (drop l.arg-index l.args)) ≡ flag_value l.flag (lists_of l.args)
