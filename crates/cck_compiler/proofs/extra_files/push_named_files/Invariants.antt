use Rattle.std.proofs.Common.{◌≡◌, ◌++◌, take}
use Rattle.cck_path.specs.Bytes.{lists_of, variables_of}
use Rattle.cck_compiler.specs.ExtraFiles.{named_files}
use Rattle.cck_compiler.proofs.extra_files.push_named_files.Given as goal

-- what the variables so far name was appended
abbrev pub invariant-loop-name : goal.invariant-loop-name
invariant-loop-name l = lists_of l.all.items ≡ lists_of l.fn.all.items ++ named_files (variables_of (take l.name-index l.vars))
