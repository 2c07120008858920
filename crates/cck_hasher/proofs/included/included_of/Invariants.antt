use Rattle.std.proofs.Common.{◌≡◌, ◌++◌}
use Rattle.cck_include.specs.Gathered.{digested_in}
use Rattle.cck_hasher.specs.Included.{digested_of}
use Rattle.cck_hasher.proofs.included.included_of.Given as goal

-- the files that are done, followed by the others, are all files
abbrev pub invariant-loop-path : goal.invariant-loop-path
invariant-loop-path l = digested_in l.included.items ++ digested_of l.path-iterator.rest.items ≡ digested_of l.fn.files.items
