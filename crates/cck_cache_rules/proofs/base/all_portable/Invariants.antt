use Rattle.std.specs.List.{AllWithin}
use Rattle.cck_cache_rules.specs.Argument.{IsPortable}
use Rattle.cck_cache_rules.proofs.base.all_portable.Given as goal

-- the arguments so far are portable
abbrev pub invariant-loop-argument : goal.invariant-loop-argument
invariant-loop-argument l = AllWithin (λ a. IsPortable a.items l.base) l.arguments 0 l.argument-index
