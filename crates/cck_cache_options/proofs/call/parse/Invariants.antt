use Rattle.std.proofs.Common.{◌≡◌, map, take}
use Rattle.std.specs.Prelude.{fold}
use Rattle.cck_cache_options.specs.Table.{entries}
use Rattle.cck_cache_options.specs.Call.{advance, call_of, next_of, nothing_asked}
use Rattle.cck_cache_options.proofs.call.parse.Given as goal

abbrev pub invariant-loop-argument : goal.invariant-loop-argument
invariant-loop-argument l = next_of (call_of l.call) l.state ≡ fold (advance (entries l.rows)) nothing_asked (map (λ argument. argument.items) (take l.argument-index l.arguments))
