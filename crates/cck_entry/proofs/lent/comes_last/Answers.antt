use Rattle.std.proofs.Common.{◌≡◌, ◌-◌, ◌+◌, arith, length, sym, ◌∙◌}
use Rattle.cck_entry.proofs.LentLemmas.{after_last}
use Rattle.cck_entry.proofs.lent.comes_last.Goals as goal

pub returns-in-Some : goal.returns-in-Some
returns-in-Some c =
    let rs = c.args.results.now in
    let e : length rs - 1 + 1 ≡ length rs = omega (arith, c.in-Some.ensures.item.3.0) in
    c.lt.ensures ∙ after_last rs (length rs - 1) c.args.key.now c.in-Some.last.now e (sym c.in-Some.ensures.value) c.requires
