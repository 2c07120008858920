use Rattle.std.proofs.Common.{◌≡◌, take}
use Rattle.cck_path.specs.Bytes.{variables_of}
use Rattle.cck_c.specs.Bytes.{passed_variables}
use Rattle.cck_c.proofs.bytes.copy_variables.Given as goal

-- the variables so far
abbrev pub invariant-loop-one : goal.invariant-loop-one
invariant-loop-one l = variables_of l.variables.items ≡ passed_variables (take l.one-index l.all)
