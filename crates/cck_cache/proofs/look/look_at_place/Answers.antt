use Rattle.std.proofs.Common.{Option, Some, IfSome, String, subst}
use Rattle.std.proofs.lemmas.Result.{IfOk-weaker}
use Rattle.std.specs.declared.alloc.Global.{Global}
use Rattle.cck_cache.specs.Look.{IsKeptObject, IsLooked, IsLookUp, IsNameOf}
use Rattle.cck_cache.specs.declared.look.Looked.{Looked}
use Rattle.cck_cache.proofs.LookLemmas.{looked_kept}
use Rattle.cck_cache.proofs.look.look_at_place.Goals as goal

pub returns-in-Some-2 : goal.returns-in-Some-2
returns-in-Some-2 g c =
    let lookup = c.args.lookup.now in
    let place = c.args.place in
    let name = c.in-Some-2.name in
    IfOk-weaker c.kept_object.result (IsKeptObject lookup.wanted.now.outputs (Some place) name) (λ (looked : Looked). IsLookUp lookup → IsLooked lookup looked)
    (λ looked kept from. looked_kept lookup (Some place) name looked c.requires
    (subst (λ (o : Option (String Global)). IfSome o (IsNameOf lookup)) c.in-Some-2.is (c.in_ok-name-2.ensures from)) kept) c.kept_object.ensures
