use Rattle.std.proofs.Common.{◌≡◌, take}
use Rattle.cck_include.specs.Include.{includes_in}
use Rattle.cck_entry.proofs.results.copy_includes.Given as goal

abbrev pub invariant-loop-include : goal.invariant-loop-include
invariant-loop-include l = includes_in l.copies.items ≡ includes_in (take l.include-index l.includes)
