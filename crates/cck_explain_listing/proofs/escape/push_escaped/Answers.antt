use Rattle.std.proofs.Common.{◌≡◌, ◌∙◌, ◌++◌, ◌+◌, ◌-◌, ap, sym, take, drop, length, arith}
use Rattle.std.proofs.lemmas.Grind.{common_steps}
use Rattle.cck_path.specs.Escape.{escaped}
use Rattle.cck_explain_listing.proofs.EscapeLemmas.{none_escaped, run_more}
use Rattle.cck_explain_listing.proofs.escape.push_escaped.Goals as goal

pub loop-at-preserved : goal.loop-at-preserved
loop-at-preserved c =
    let s = c.loop-at.rest.now in
    let more : c.push_escaped_byte.new.line.items ++ escaped (drop (c.in-Some.at + 1) s) ≡ c.args.line.now.items ++ escaped c.args.bytes.now =
    run_more c.loop-at.line.items c.extend_from_slice.new.self.items c.push_escaped_byte.new.line.items _ s c.in-Some.at
    (sym c.in-Some.ensures) c.loop-at.invariant c.in_ok-extend_from_slice.ensures.items c.in_ok-push_escaped_byte.ensures in
    let all : take (length s - (c.in-Some.at + 1)) (drop (c.in-Some.at + 1) s) ≡ drop (c.in-Some.at + 1) s = grind (arith, common_steps) in
    ap (λ l. c.push_escaped_byte.new.line.items ++ escaped l) all ∙ more

pub returns : goal.returns
returns c =
    c.in_ok-extend_from_slice-2.ensures.items
    ∙ ap (λ l. c.loop-at.line.items ++ l) (sym (none_escaped c.loop-at.rest.now (sym c.first_escaped.ensures ∙ c.in_default.is)))
    ∙ c.loop-at.invariant
