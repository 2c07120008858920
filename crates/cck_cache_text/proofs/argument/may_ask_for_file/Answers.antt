use Rattle.std.proofs.Common.{◌≡◌, true, false, ◌∙◌, below_more}
use Rattle.cck_cache_text.proofs.argument.may_ask_for_file.Goals as goal

false_true : false ≡ true → ⊥
false_true e = cc

pub loop-place-preserved : goal.loop-place-preserved
loop-place-preserved c = below_more _ _ c.loop-place.invariant (λ is. false_true (c.if-is_test_word_at.ensures ∙ is))
