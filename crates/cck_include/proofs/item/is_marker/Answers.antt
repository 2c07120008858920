use Rattle.std.proofs.Common.{◌≡◌, ◌∙◌, ℕ, List, nat_eq, ap, subst, sym, arith}
use Rattle.std.specs.Prelude.{codes}
use Rattle.std.specs.List.{starts_with}
use Rattle.cck_include.specs.Marks.{is_marker}
use Rattle.cck_include.proofs.MarkerLemmas.{after_l, after_p, after_space, begins, other_first, other_second, too_short}
use Rattle.cck_include.proofs.item.is_marker.Goals.{then-text-lt3-via-then-text-lt3, then-text-lt3-via-else-text-lt3+then-text-ne35}
use Rattle.cck_include.proofs.item.is_marker.Goals as goal

pub returns-then-text-lt3 : goal.returns-then-text-lt3
returns-then-text-lt3 c =
    elim c.then-text-lt3.branch [
      | then-text-lt3-via-then-text-lt3 w ↦ sym (too_short c.args.text.now w.if-text-lt3.true)
      | then-text-lt3-via-else-text-lt3+then-text-ne35 w ↦ sym (other_first c.args.text.now w.if-text-ne35.true)
    ]

pub returns-in-32 : goal.returns-in-32
returns-in-32 c =
    let text = c.args.text.now in
    let is = begins text 32 (omega arith) c.if-text-ne35.false c.in-32.is in
    c.is_ascii_digit.ensures.value ∙ sym (ap is_marker is ∙ after_space _ _)

pub returns-in-112 : goal.returns-in-112
returns-in-112 c =
    let text = c.args.text.now in
    let is = begins text 112 (omega arith) c.if-text-ne35.false c.in-112.is in
    c.starts_with.ensures.value ∙ sym (subst (λ (t : List ℕ). is_marker t ≡ starts_with nat_eq t (codes "#pragma GCC pch_preprocess")) (sym is) (after_p _))

pub returns-in-108 : goal.returns-in-108
returns-in-108 c =
    let text = c.args.text.now in
    let is = begins text 108 (omega arith) c.if-text-ne35.false c.in-108.is in
    c.starts_with-in-108.ensures.value ∙ sym (subst (λ (t : List ℕ). is_marker t ≡ starts_with nat_eq t (codes "#line ")) (sym is) (after_l _))

pub returns-in_default : goal.returns-in_default
returns-in_default c = sym (other_second c.args.text.now (omega arith) (omega arith) (omega arith))
