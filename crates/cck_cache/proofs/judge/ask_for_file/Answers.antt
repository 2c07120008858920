use Rattle.std.proofs.Common.{◌≡◌, ◌∙◌, ℕ, inl, inr, true, false, get_or, sym, ap, subst, arith}
use Rattle.std.specs.Global.{Vec}
use Rattle.std.proofs.lemmas.Bool.{cases_lt}
use Rattle.std.proofs.lemmas.List.{get_or_default}
use Rattle.cck_cache_rules.proofs.ListLemmas.{any_decided}
use Rattle.cck_cache_text.specs.Argument.{MayAskForFile}
use Rattle.cck_cache.proofs.judge.ask_for_file.Goals as goal

false_true : false ≡ true → ⊥
false_true e = cc

pub loop-argument-init : goal.loop-argument-init
loop-argument-init c k other lt may = absurd (omega (arith, lt))

pub returns-then-may_ask_for_file : goal.returns-then-may_ask_for_file
returns-then-may_ask_for_file c =
    let arguments = c.args.arguments.now in
    let i = c.loop-argument.argument-index in
    let may : MayAskForFile c.deref.result.now = c.may_ask_for_file.ensures.0 c.if-may_ask_for_file.true in
    any_decided MayAskForFile (λ a. a.items) arguments true
    (i, c.loop-argument-test.true, λ other. subst MayAskForFile (c.deref.ensures.value ∙ ap (λ (a : Vec ℕ). a.items) (c.argument-item.is ∙ get_or_default arguments i c.argument-item.result other c.loop-argument-test.true)) may)

pub loop-argument-preserved : goal.loop-argument-preserved
loop-argument-preserved c k other lt may =
    let arguments = c.args.arguments.now in
    let i = c.loop-argument.argument-index in
    elim (cases_lt k i) [
      | inl below ↦ c.loop-argument.invariant k other below may
      | inr above ↦ (
          let same : k ≡ i = omega arith in
          let here : MayAskForFile (get_or arguments i other).items = subst (λ (n : ℕ). MayAskForFile (get_or arguments n other).items) same may in
          let it : MayAskForFile c.deref.result.now =
          subst MayAskForFile (sym (c.deref.ensures.value ∙ ap (λ (a : Vec ℕ). a.items) (c.argument-item.is ∙ get_or_default arguments i c.argument-item.result other c.loop-argument-test.true))) here
          in
          false_true (sym c.if-may_ask_for_file.false ∙ c.may_ask_for_file.ensures.1 it)
          )
    ]

pub returns : goal.returns
returns c = any_decided MayAskForFile (λ a. a.items) c.args.arguments.now false (λ k other at lt may. c.loop-argument.invariant k other (omega (arith, lt)) may)
