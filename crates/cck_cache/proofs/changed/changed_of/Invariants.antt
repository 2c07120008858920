use Rattle.std.proofs.Common.{◌≡◌}
use Rattle.cck_cache.proofs.changed.changed_of.Given as goal

abbrev pub invariant-loop-include : goal.invariant-loop-include
invariant-loop-include l = record {
  can : (goal.iterator-loop-include).can_next l.include-iterator;
  finite : (goal.iterator-loop-include).is_finite l.include-iterator;
  same : l.files.files ≡ l.fn.files.files;
}
