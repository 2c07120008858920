use Rattle.std.proofs.Common.{◌≡◌, length, map}
use Rattle.cck_cache_options.specs.Call.{keyed_argument}
use Rattle.cck_cache_options.specs.Definition.{are_shown_by_use}
use Rattle.cck_cache_options.proofs.definition.are_shown_by_use.Given as goal

-- all arguments are plain if those that are left are
abbrev pub invariant-loop-rest : goal.invariant-loop-rest
invariant-loop-rest l = are_shown_by_use (map keyed_argument l.rest) ≡ are_shown_by_use (map keyed_argument l.arguments)

abbrev pub decreases-loop-rest : goal.decreases-loop-rest
decreases-loop-rest l = length l.rest
