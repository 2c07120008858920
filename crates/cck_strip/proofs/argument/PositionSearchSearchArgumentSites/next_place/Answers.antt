use Rattle.std.proofs.Common.{◌≡◌, ◌==◌, inl, inr, ℕ, List, [], ◌∷◌, true, map, length, refl, sym, ◌∙◌, arith}
use Rattle.std.proofs.lemmas.Grind.{common_steps}
use Rattle.std.proofs.lemmas.Bool.{cases_lt}
use Rattle.cck_strip.proofs.PositionLemmas.{argument_site-beyond, argument_site-elsewhere, argument_site-none}
use Rattle.cck_strip.proofs.argument.PositionSearchSearchArgumentSites.next_place.Goals as goal
use borrow.Author.Count.{below_more}

none : {B : Type 0} (items : B → List ℕ) (basedirs : List B) → (length basedirs == 0) ≡ true → map items basedirs ≡ []
none items [] e = refl
none items (basedir ∷ basedirs) e = absurd (grind (arith, common_steps))

pub returns-then-is_empty : goal.returns-then-is_empty
returns-then-is_empty g c k low = argument_site-none _ _ k (none _ _ (sym c.is_empty.ensures ∙ c.if-is_empty.true))

pub loop-at-preserved : goal.loop-at-preserved
loop-at-preserved g c =
    below_more _ _ c.loop-at.invariant (λ low. argument_site-elsewhere _ _ _ (sym c.is_position.ensures ∙ c.if-is_position.false))

pub returns : goal.returns
returns g c k low = elim (cases_lt k c.loop-at.at) [
  | inl before ↦ c.loop-at.invariant k before low
  | inr following ↦ argument_site-beyond _ _ k (let end = c.loop-at-test.false in omega arith)
]
