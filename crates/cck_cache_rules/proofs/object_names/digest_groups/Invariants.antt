use Rattle.std.proofs.Common.{◌≡◌, map, take}
use Rattle.std.specs.Option.{option_map}
use Rattle.cck_include.specs.Include.{include_lent}
use Rattle.cck_cache_rules.specs.ObjectName.{digests_inside, digests_outside}
use Rattle.cck_cache_rules.proofs.object_names.digest_groups.Given as goal

abbrev pub invariant-loop-include : goal.invariant-loop-include
invariant-loop-include l = record {
  outside : map (λ d. d.now) l.outside.items ≡ digests_outside (option_map (λ b. b.now) l.base) (map include_lent (take l.include-index l.includes));
  inside : map (λ d. d.now) l.inside.items ≡ digests_inside (option_map (λ b. b.now) l.base) (map include_lent (take l.include-index l.includes));
}
