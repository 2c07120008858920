use Rattle.std.proofs.Common.{IfSome}
use Rattle.cck_cache.specs.Look.{IsNameOf, IsLookUp}
use Rattle.cck_cache.proofs.look.look_in_store.Given as goal

-- the name so far is one of an object of the key
abbrev pub invariant-loop-place : goal.invariant-loop-place
invariant-loop-place g l = IsLookUp l.lookup → IfSome l.all.object_name (IsNameOf l.lookup)
