use Rattle.std.proofs.Common.{◌∙◌, ap, not}
use Rattle.std.proofs.lemmas.Result.{IfOk-weaker}
use Rattle.cck_cache.specs.Request.{is_clang}
use Rattle.cck_cache.specs.Record.{IsSeen, IsSeenBySome}
use Rattle.cck_cache.proofs.record.see.Goals as goal

pub returns : goal.returns
returns g c =
    let request = c.args.request.now in
    let since = c.args.compilation.now.since in
    let text = c.args.text.now in
    let printed = c.deref.result.now in
    IfOk-weaker c.see_by.result (IsSeen request since printed text) (IsSeenBySome request since text) (λ seen is. (printed, is)) (c.see_by.ensures (ap not (c.is_clang.ensures ∙ ap is_clang c.as_str.ensures.value)))
