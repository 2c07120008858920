use Rattle.std.proofs.Common.{◌++◌, ◌∷◌, [], ap, ◌∙◌, append_assoc}
use Rattle.std.specs.Prelude.{flat_map}
use Rattle.std.proofs.lemmas.List.{take_all}
use Rattle.cck_cache_options.specs.Quote.{quoted_byte}
use Rattle.cck_cache_options.proofs.StepLemmas.{bytes_more}
use Rattle.cck_cache_options.proofs.quote.push_quoted.Goals as goal

pub loop-byte-preserved : goal.loop-byte-preserved
loop-byte-preserved c =
    bytes_more quoted_byte c.args.argument.now c.loop-byte.byte-index 0 (c.args.out.now.items ++ 39 ∷ []) _ _ c.loop-byte-test.true c.loop-byte.invariant c.in_ok-push_byte.ensures

pub returns : goal.returns
returns c =
    let front = c.args.out.now.items in
    let argument = c.args.argument.now in
    let all = ap (λ l. (front ++ 39 ∷ []) ++ flat_map quoted_byte l) (take_all c.loop-byte.byte-index argument c.loop-byte-test.false) in
    c.in_ok-push-2.ensures.items ∙ ap (λ l. l ++ 39 ∷ []) (c.loop-byte.invariant ∙ all)
    ∙ append_assoc (front ++ 39 ∷ []) (flat_map quoted_byte argument) (39 ∷ [])
    ∙ append_assoc front (39 ∷ []) (flat_map quoted_byte argument ++ 39 ∷ [])
