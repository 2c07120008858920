use Rattle.std.proofs.Common.{◌≡◌, Bool, true, false, IsTrue, sym, ◌∙◌}
use Rattle.cck_digest.specs.TimeMacros.{has}
use Rattle.cck_digest.proofs.FinderLemmas.{Has-found}
use Rattle.cck_digest.proofs.HasLemmas.{has_iff}
use Rattle.cck_cache_text.proofs.splices.has.Goals as goal

-- two tests that are true at the same time
same_tests : (a b : Bool) → (IsTrue a → IsTrue b) → (IsTrue b → IsTrue a) → a ≡ b
same_tests true true f g = cc
same_tests true false f g = absurd (let h = f cc in cc)
same_tests false true f g = absurd (let h = g cc in cc)
same_tests false false f g = cc

pub returns : goal.returns
returns c =
    let text = c.args.text.now in
    let word = c.args.word.now in
    let found = Has-found text word c.find.result c.find.ensures in
    let tested = has_iff text word in
    same_tests c.is_some.result (has text word) (λ is. tested.1 (found.0 (sym c.is_some.ensures ∙ is))) (λ is. c.is_some.ensures ∙ found.1 (tested.0 is))
