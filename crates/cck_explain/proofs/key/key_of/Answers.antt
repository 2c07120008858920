use Rattle.std.proofs.Common.{◌≡◌, ◌∙◌, ℕ, List, ap}
use Rattle.std.specs.Global.{Vec}
use Rattle.cck_path.specs.Bytes.{Bytes, lists_of}
use Rattle.cck_util.specs.Key.{Params, object_key, plain_params}
use Rattle.cck_explain.specs.ExplainKeyRequest.{params_for}
use Rattle.cck_explain.specs.declared.request.ExplainKeyRequest.{ExplainKeyRequest}
use Rattle.cck_explain.proofs.key.key_of.Goals as goal

-- the key of what was passed is that of the request
key_is : (hash : Bytes → Bytes) (request : ExplainKeyRequest) (text key : Bytes) (arguments basedirs : List (Vec ℕ)) (plain params : Params)
    → plain ≡ plain_params request.compiler_digest.now request.language (lists_of arguments) text → arguments ≡ request.arguments.items
    → params ≡ record plain { basedirs = lists_of basedirs } → basedirs ≡ request.basedirs.items → key ≡ object_key hash params → key ≡ object_key hash (params_for request text)
key_is hash request text key arguments basedirs plain params plain_is arguments_are params_are basedirs_are is =
    let given = plain_is ∙ ap (λ a. plain_params request.compiler_digest.now request.language (lists_of a) text) arguments_are in
    is ∙ ap (object_key hash) (params_are ∙ ap {A = Params} (λ p. record p { basedirs = lists_of basedirs }) given
    ∙ ap (λ d. record (plain_params request.compiler_digest.now request.language (lists_of request.arguments.items) text) { basedirs = lists_of d }) basedirs_are)

pub returns-in-Ok : goal.returns-in-Ok
returns-in-Ok g c =
    key_is g.H.HashState.hash c.args.request.now c.args.text.now _ _ _ _ _ c.new.ensures c.deref.ensures.value c.with_basedirs-params.ensures c.deref-2.ensures.value c.in-Ok.ensures.key
