use Rattle.std.proofs.Common.{◌≡◌, ◌++◌, ◌∷◌, [], take}
use Rattle.std.specs.Prelude.{flat_map}
use Rattle.cck_cache_options.specs.Quote.{quoted_byte}
use Rattle.cck_cache_options.proofs.quote.push_quoted.Given as goal

abbrev pub invariant-loop-byte : goal.invariant-loop-byte
invariant-loop-byte l = l.out.items ≡ (l.fn.out.items ++ 39 ∷ []) ++ flat_map quoted_byte (take l.byte-index l.argument)
