use Rattle.std.proofs.Common.{List, ℕ, ◌++◌, take, map}
use Rattle.std.specs.List.{flat_map}
use Rattle.cck_path.specs.Bytes.{variables_of}
use Rattle.cck_util.specs.Variables.{variable_frames, variables_named}
use Rattle.cck_util.proofs.variables.hash_variable_list.Given as goal

-- the variables so far that have one of the names were fed
abbrev pub invariant-loop-variable : goal.invariant-loop-variable
invariant-loop-variable g l = (fed : List ℕ) → g.H.HashState.holds l.initial.digest fed →
    g.H.HashState.holds l.digest (fed ++ flat_map variable_frames
    (variables_named (map (λ n. n.now) l.names) (variables_of (take l.variable-index l.variables))))
