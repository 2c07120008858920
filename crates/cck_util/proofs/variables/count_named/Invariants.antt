use Rattle.std.proofs.Common.{◌≡◌, ◌≤◌, length, map, take}
use Rattle.cck_path.specs.Bytes.{variables_of}
use Rattle.cck_util.specs.Variables.{variables_named}
use Rattle.cck_util.proofs.variables.count_named.Given as goal

-- the count is of the variables so far that have one of the names
abbrev pub invariant-loop-name : goal.invariant-loop-name
invariant-loop-name l = record {
  counted : l.count ≡ length (variables_named (map (λ n. n.now) l.names) (variables_of (take l.name-index l.variables)));
  within : l.count ≤ l.name-index;
}
