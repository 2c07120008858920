use Rattle.std.proofs.Common.{inl, inr, sym, ◌∙◌, arith}
use Rattle.std.proofs.lemmas.Bool.{cases_lt}
use Rattle.cck_strip.proofs.SoughtLemmas.{text_site-beyond, text_site-inside, text_site-unmarked}
use Rattle.cck_strip.proofs.text.FirstByteSearchSearchTextSites.next_place.Goals as goal
use Rattle.cck_strip.proofs.text.FirstByteSearchSearchTextSites.next_place.Goals.{else-self-text-via-then-self-text+else-is_boundary, else-self-text-via-else-self-text}
use borrow.Author.Count.{below_more}

pub loop-at-preserved : goal.loop-at-preserved
loop-at-preserved c =
    below_more _ _ c.loop-at.invariant (λ low. elim c.else-self-text.branch [
      | else-self-text-via-then-self-text+else-is_boundary w ↦
          text_site-inside _ _ _ (sym w.is_boundary.ensures ∙ w.if-is_boundary.false)
      | else-self-text-via-else-self-text w ↦
          text_site-unmarked _ _ _ _ c.requires.finds w.if-self-text.false
    ])

pub returns : goal.returns
returns c k low = elim (cases_lt k c.loop-at.at) [
  | inl before ↦ c.loop-at.invariant k before low
  | inr following ↦ text_site-beyond _ _ k (let end = c.loop-at-test.false in omega arith)
]
