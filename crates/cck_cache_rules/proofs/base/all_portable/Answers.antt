use Rattle.std.proofs.Common.{true, false, subst}
use Rattle.std.specs.List.{HoldsAt}
use Rattle.std.proofs.lemmas.Bool.Decides.{not_from_Decides}
use Rattle.std.proofs.lemmas.List.Elements.{AllWithin-more, AllWithin-upto, at_read}
use Rattle.cck_cache_rules.specs.Argument.{IsPortable}
use Rattle.cck_cache_rules.proofs.ListLemmas.{all_decided}
use Rattle.cck_cache_rules.proofs.base.all_portable.Goals as goal

pub returns-then-not-is_portable : goal.returns-then-not-is_portable
returns-then-not-is_portable c =
    let xs = c.args.arguments.now in
    let i = c.loop-argument.argument-index in
    let no = not_from_Decides _ c.is_portable.ensures c.if-not-is_portable.true in
    let here : HoldsAt (λ a. ¬ IsPortable a.items c.args.base.now) xs i =
    at_read xs (λ a. ¬ IsPortable a.items c.args.base.now) i c.argument-item.result c.loop-argument-test.true c.argument-item.is
    (subst (λ t. ¬ IsPortable t c.args.base.now) c.deref.ensures.value no)
    in
    all_decided (λ a. IsPortable a c.args.base.now) (λ a. a.items) xs false (i, c.loop-argument-test.true, here)

pub loop-argument-preserved : goal.loop-argument-preserved
loop-argument-preserved c =
    let xs = c.args.arguments.now in
    let i = c.loop-argument.argument-index in
    let here : HoldsAt (λ a. IsPortable a.items c.args.base.now) xs i =
    at_read xs (λ a. IsPortable a.items c.args.base.now) i c.argument-item.result c.loop-argument-test.true c.argument-item.is
    (subst (λ t. IsPortable t c.args.base.now) c.deref.ensures.value (c.is_portable.ensures.0 c.if-not-is_portable.false))
    in
    AllWithin-more (λ a. IsPortable a.items c.args.base.now) xs 0 i c.loop-argument.invariant here

pub returns : goal.returns
returns c =
    let xs = c.args.arguments.now in
    all_decided (λ a. IsPortable a c.args.base.now) (λ a. a.items) xs true
    (AllWithin-upto (λ a. IsPortable a.items c.args.base.now) xs 0 c.loop-argument.argument-index _ c.loop-argument-test.false c.loop-argument.invariant)
