use Rattle.std.proofs.Common.{List, map, take}
use Rattle.std.specs.List.{Contains}
use Rattle.cck_entry.specs.Lent.{result_lent}
use Rattle.cck_include.specs.Include.{Include}
use Rattle.cck_cache.proofs.naming.result_of.Given as goal

-- no result so far has the key
abbrev pub invariant-loop-result : goal.invariant-loop-result
invariant-loop-result l = (includes : List Include) → Contains (map result_lent (take l.result-index l.result-items)) (l.key, includes) → ⊥
