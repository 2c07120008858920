use Rattle.std.proofs.Common.{ap, ◌∙◌}
use Rattle.cck_cache_store.specs.Http.{named_port, request_with}
use Rattle.cck_cache_store.proofs.http.request_of.Goals as goal

pub returns : goal.returns
returns c =
    let path = c.args.path.now in
    let host = c.args.address.now.host.now in
    c.in_ok-request.ensures.ok
    ∙ ap (λ port. request_with path host port c.as_str-2.result.now) (c.as_str.ensures.value ∙ c.in_ok-port.ensures)
    ∙ ap (λ field. request_with path host (named_port c.args.address.now.port) field) (c.as_str-2.ensures.value ∙ c.in_ok-authorization.ensures)
