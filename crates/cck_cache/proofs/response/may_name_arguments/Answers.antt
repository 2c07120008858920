use Rattle.std.proofs.Common.{◌≡◌, true, false, ◌∙◌, below_more}
use Rattle.cck_cache.proofs.response.may_name_arguments.Goals as goal

false_true : false ≡ true → ⊥
false_true e = cc

pub loop-place-preserved : goal.loop-place-preserved
loop-place-preserved c = below_more _ _ c.loop-place.invariant (λ is. false_true (c.if-begins_arguments.ensures ∙ is))
