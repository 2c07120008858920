use Rattle.std.proofs.Common.{◌≡◌, ◌++◌, map}
use Rattle.std.specs.BTreeMap.{IsOrdered}
use Rattle.std.specs.String.{string_cmp}
use Rattle.cck_compiler.specs.Seen.{output_of}
use Rattle.cck_compiler.proofs.copies.copy_outputs.Given as goal

abbrev pub invariant-loop-name : goal.invariant-loop-name
invariant-loop-name l = record {
  copied : map output_of l.copies.entries ++ map output_of l.name-iterator ≡ map output_of l.outputs.entries;
  ordered : IsOrdered string_cmp l.outputs;
}
