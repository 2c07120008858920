use Rattle.std.proofs.Common.{◌∙◌, sym, ap, Result, Err}
use Rattle.cck_path.specs.Bytes.{Bytes}
use Rattle.cck_explain_listing.specs.Fault.{Wrong}
use Rattle.cck_explain_listing.specs.declared.fault.Cause.{Cause}
use Rattle.cck_explain_listing.specs.declared.fault.Cause.TheVariants.{KeyOrder}
use Rattle.cck_explain_listing.proofs.FaultLemmas.{counted_wrong, key_wrong, order_wrong, result_read, results_read}
use Rattle.cck_explain_listing.proofs.fault.skip_results.Goals as goal

pub returns-in-Err : goal.returns-in-Err
returns-in-Err c = key_wrong c.args.count c.loop.counter _ c.loop.rest.now _ c.loop.invariant _ c.loop-test.true c.in-Err.ensures

pub returns-then-not-comes_next : goal.returns-then-not-comes_next
returns-then-not-comes_next c =
    let wrong : Bytes → Cause → Result Bytes Wrong = λ b k. Err (b, k) in
    order_wrong c.args.count c.loop.counter _ c.loop.rest.now _ c.loop.invariant _ _ c.loop-test.true c.in-Ok.ensures (sym c.comes_next.ensures ∙ c.if-not-comes_next.true)
    ∙ ap (λ b. wrong b KeyOrder) (sym c.new.ensures.left) ∙ ap (wrong c.new.result.left.now) (sym c.new.ensures.cause)

pub returns-in-Err-skip_counted : goal.returns-in-Err-skip_counted
returns-in-Err-skip_counted c =
    counted_wrong c.args.count c.loop.counter _ c.loop.rest.now _ c.loop.invariant _ _ c.loop-test.true c.in-Ok.ensures _ (sym c.comes_next.ensures ∙ c.if-not-comes_next.false) c.in-Err-skip_counted.ensures

pub loop-preserved : goal.loop-preserved
loop-preserved c =
    result_read c.args.count c.loop.counter _ c.loop.rest.now _ c.loop.invariant _ _ c.loop-test.true c.in-Ok.ensures _ (sym c.comes_next.ensures ∙ c.if-not-comes_next.false) c.in-Ok-skip_counted.ensures

pub returns : goal.returns
returns c = results_read c.args.count c.loop.counter _ c.loop.rest.now _ c.loop.invariant c.loop-test.false
