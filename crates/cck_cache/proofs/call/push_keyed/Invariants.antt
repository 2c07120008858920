use Rattle.std.proofs.Common.{◌≡◌, ◌++◌, take}
use Rattle.std.specs.Prelude.{flat_map}
use Rattle.cck_cache.specs.Call.{one_among}
use Rattle.cck_path.specs.Bytes.{lists_of}
use Rattle.cck_cache.proofs.call.push_keyed.Given as goal

abbrev pub invariant-loop-one : goal.invariant-loop-one
invariant-loop-one l = lists_of l.all.items ≡ lists_of l.fn.all.items ++ flat_map (one_among l.defines) (take l.one-index l.keyed)
