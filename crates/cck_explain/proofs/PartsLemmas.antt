-- parts that are appended one after the other
use Rattle.std.proofs.Common.{◌≡◌, ◌∙◌, List, ◌++◌, ap}
use Rattle.cck_explain.specs.Listing.{Part}

-- one more was appended
pub then : (after before whole added more : List Part) → after ≡ before ++ added → before ≡ whole → added ≡ more → after ≡ whole ++ more
then after before whole added more e h k = e ∙ ap (λ l. l ++ added) h ∙ ap (λ l. whole ++ l) k

-- four were appended
pub then_four : (after before whole a b c added more : List Part) → after ≡ before ++ a ++ b ++ c ++ added → before ≡ whole → added ≡ more → after ≡ whole ++ a ++ b ++ c ++ more
then_four after before whole a b c added more e h k = e ∙ ap (λ l. l ++ a ++ b ++ c ++ added) h ∙ ap (λ l. whole ++ a ++ b ++ c ++ l) k
