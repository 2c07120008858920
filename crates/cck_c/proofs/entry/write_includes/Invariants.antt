use Rattle.std.proofs.Common.{◌≡◌, ◌+◌, ◌≤◌, ◌++◌, length, map, take, drop}
use Rattle.cck_c.specs.Entry.{include_fields, passed_include}
use Rattle.cck_c.proofs.entry.write_includes.Given as goal

-- the includes so far are written, and the rest of the array is as before
abbrev pub invariant-loop-include : goal.invariant-loop-include
invariant-loop-include l = record {
  can : goal.iterator-loop-include.can_next l.include-iterator;
  finite : goal.iterator-loop-include.is_finite l.include-iterator;
  fits : l.index + length l.include-iterator ≤ length l.includes;
  written : map passed_include (take l.index l.includes) ++ map include_fields l.include-iterator ≡ map include_fields l.fn.all;
  rest : drop l.index l.includes ≡ drop l.index l.fn.includes;
}
