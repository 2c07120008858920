use Rattle.std.proofs.Common.{◌≡◌, ◌++◌, map}
use Rattle.std.specs.Vec.Iter.{into_iter_items}
use Rattle.cck_cache_rules.specs.PathStatus.{AreStatuses, status_bytes, statuses_of}
use Rattle.cck_cache_rules.specs.PathTest.{test_bytes, tests_of}
use Rattle.cck_cache_rules.proofs.entry_file.file_of.Given as goal

-- the parts of the statuses and the tests so far, and those that are left
abbrev pub invariant-loop-part : goal.invariant-loop-part
invariant-loop-part l = record {
  parts : map (λ p. p.now) (into_iter_items l.initial.part-iterator)
      ≡ (map status_bytes (statuses_of l.statuses.items) ++ map test_bytes (tests_of l.tests.items)) ++ map (λ p. p.now) (into_iter_items l.part-iterator);
  are : AreStatuses (statuses_of l.statuses.items);
}
