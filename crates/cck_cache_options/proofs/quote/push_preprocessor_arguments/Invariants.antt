use Rattle.std.proofs.Common.{◌≡◌, ◌++◌, map, take}
use Rattle.cck_cache_options.specs.Call.{keyed_argument}
use Rattle.cck_cache_options.specs.Quote.{preprocessor_command}
use Rattle.cck_cache_options.proofs.quote.push_preprocessor_arguments.Given as goal

abbrev pub invariant-loop-argument : goal.invariant-loop-argument
invariant-loop-argument l = l.out.items ≡ l.fn.out.items ++ preprocessor_command (map keyed_argument (take l.argument-index l.arguments))
