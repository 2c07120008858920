use Rattle.std.proofs.Common.{◌≡◌, drop}
use Rattle.cck_path.specs.Bytes.{variables_of}
use Rattle.cck_compiler.specs.ExtraFiles.{text_value}
use Rattle.cck_compiler.proofs.extra_files.text_value.Given as goal

-- the variables that are not yet read decide the result
abbrev pub invariant-loop-known : goal.invariant-loop-known
invariant-loop-known l = text_value l.name (variables_of (drop l.known-index l.vars)) ≡ text_value l.name (variables_of l.vars)
