use Rattle.std.proofs.Common.{ℕ, List, map, ap, ◌∙◌}
use Rattle.std.specs.Prelude.{fold}
use Rattle.std.specs.Global.{Vec}
use Rattle.std.proofs.lemmas.List.{take_all}
use Rattle.cck_cache_options.specs.Table.{Entry, entries}
use Rattle.cck_cache_options.specs.Call.{advance, call_of, finish, next_of, nothing_asked}
use Rattle.cck_cache_options.proofs.StepLemmas.{folded_more}
use Rattle.cck_cache_options.proofs.call.parse.Goals as goal

pub loop-argument-preserved : goal.loop-argument-preserved
loop-argument-preserved c =
    folded_more (advance (entries c.args.rows.now)) (λ argument. argument.items) nothing_asked c.args.arguments.now c.loop-argument.argument-index c.argument-item.result _ _ c.loop-argument-test.true c.loop-argument.invariant
    (c.in_ok-state.ensures ∙ ap (λ (table : List Entry). advance table (next_of (call_of c.loop-argument.call) c.loop-argument.state) c.deref.result.now) c.in_ok-runs.ensures.0
    ∙ ap (advance (entries c.args.rows.now) (next_of (call_of c.loop-argument.call) c.loop-argument.state)) (c.deref.ensures.value ∙ ap (λ (w : Vec ℕ). w.items) c.argument-item.is))

pub returns : goal.returns
returns c =
    let all = ap (λ arguments. finish (fold (advance (entries c.args.rows.now)) nothing_asked (map (λ argument. argument.items) arguments))) (take_all c.loop-argument.argument-index c.args.arguments.now c.loop-argument-test.false) in
    c.finish.ensures ∙ ap finish c.loop-argument.invariant ∙ all
