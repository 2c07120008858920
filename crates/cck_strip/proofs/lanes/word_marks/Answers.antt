use Rattle.std.proofs.Common.{◌≡◌, ◌∙◌, ◌+◌, ◌-◌, length, get_or, ap, arith}
use Rattle.cck_strip.proofs.lanes.word_marks.Goals as goal

pub returns : goal.returns
returns c k h o =
    let some = c.requires.some in
    let last = length c.args.word.now - 1 in
    let here : c.args.at + k ≡ c.args.at + k + 0 = omega arith in
    let there : c.args.at + last + k ≡ c.args.at + k + last = omega arith in
    c.both_equal.ensures k h (c.load.ensures.each k h ∙ (ap (λ i. get_or c.args.text.now i 0) here ∙ o.reads 0 some))
    (c.load-2.ensures.each k h ∙ (ap (λ i. get_or c.args.text.now i 0) there ∙ o.reads last (omega arith)))
