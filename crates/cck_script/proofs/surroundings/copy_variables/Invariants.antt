use Rattle.std.proofs.Common.{◌≡◌, take}
use Rattle.cck_path.specs.Bytes.{variables_of}
use Rattle.cck_script.proofs.surroundings.copy_variables.Given as goal

-- the copy so far
abbrev pub invariant-loop-name : goal.invariant-loop-name
invariant-loop-name l = variables_of l.copy.items ≡ variables_of (take l.name-index l.variables)
