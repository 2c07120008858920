-- A text that is fed piece by piece is fed as a whole.
use Rattle.std.proofs.Common.{◌≡◌, List, ℕ, ◌++◌, ap, ◌∙◌, append_assoc}

pub fed_whole : (before kind line name value : List ℕ) → ((((before ++ kind) ++ line) ++ name) ++ line) ++ value ≡ before ++ ((((kind ++ line) ++ name) ++ line) ++ value)
fed_whole before kind line name value =
    ap (λ x. ((x ++ name) ++ line) ++ value) (append_assoc before kind line)
    ∙ (ap (λ x. (x ++ line) ++ value) (append_assoc before (kind ++ line) name)
    ∙ (ap (λ x. x ++ value) (append_assoc before ((kind ++ line) ++ name) line)
    ∙ append_assoc before (((kind ++ line) ++ name) ++ line) value))
