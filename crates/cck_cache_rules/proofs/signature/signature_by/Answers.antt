use Rattle.std.proofs.Common.{◌++◌, ap, ◌∙◌, codes}
use Rattle.cck_cache_rules.specs.Signature.{pad}
use Rattle.cck_cache_rules.proofs.SignatureLemmas.{fed_whole}
use Rattle.cck_cache_rules.proofs.signature.signature_by.Goals as goal

pub returns : goal.returns
returns g c =
    let key = c.args.key.now in
    let inner = c.feed-5.ensures _ (c.feed-4.ensures _ (c.feed-3.ensures _ (c.feed-2.ensures _ (c.feed.ensures _ c.padded-inner.ensures)))) in
    let is = c.out-inner.ensures _ inner ∙ ap g.H.HashState.hash (fed_whole (pad 54 key) c.args.kind.now (codes "\n") c.args.name.now c.args.bytes.now) in
    c.out.ensures _ (c.feed-6.ensures _ c.padded-outer.ensures) ∙ ap (λ digest. g.H.HashState.hash (pad 92 key ++ digest)) is
