use Rattle.std.proofs.Common.{◌≡◌, take}
use Rattle.std.specs.Option.{option_map}
use Rattle.cck_cache_rules.specs.ObjectName.{tests_inside, tests_outside}
use Rattle.cck_cache_rules.specs.PathTest.{tests_of}
use Rattle.cck_cache_rules.specs.Reading.{byte_lists}
use Rattle.cck_cache_rules.proofs.object_names.test_groups.Given as goal

abbrev pub invariant-loop-test : goal.invariant-loop-test
invariant-loop-test l = record {
  outside : byte_lists l.outside ≡ tests_outside (option_map (λ b. b.now) l.base) (tests_of (take l.test-index l.tests));
  inside : byte_lists l.inside ≡ tests_inside (option_map (λ b. b.now) l.base) (tests_of (take l.test-index l.tests));
}
