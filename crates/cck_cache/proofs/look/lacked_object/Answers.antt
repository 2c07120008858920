use Rattle.std.proofs.Common.{Option, None, IfSome, String, subst}
use Rattle.std.proofs.lemmas.Result.{IfOk-weaker}
use Rattle.std.specs.declared.alloc.Global.{Global}
use Rattle.cck_cache.specs.Look.{IsKeptObject, IsLooked, IsLookUp, IsNameOf}
use Rattle.cck_cache.specs.declared.look.Looked.{Looked}
use Rattle.cck_cache.proofs.LookLemmas.{looked_kept}
use Rattle.cck_cache.proofs.look.lacked_object.Goals as goal

pub returns-in-Some : goal.returns-in-Some
returns-in-Some g c =
    let lookup = c.args.lookup.now in
    let name = c.in-Some.name in
    IfOk-weaker c.given_object.result (IsKeptObject lookup.wanted.now.outputs None name) (λ (looked : Looked). IsLookUp lookup → IsLooked lookup looked)
    (λ looked kept from. looked_kept lookup None name looked tt
    (subst (λ (o : Option (String Global)). IfSome o (IsNameOf lookup)) c.in-Some.is (c.requires from)) kept) c.given_object.ensures.kept
