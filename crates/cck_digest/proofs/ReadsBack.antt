-- When a text, with whatever follows it, determines the value that it was written for.
use Rattle.std.proofs.Common.{◌≡◌, ℕ, List, [], ◌∷◌, ◌++◌, length, refl, sym, ◌∙◌, arith, append_assoc}
use Rattle.std.specs.List.{flat_map}

-- if two texts are equal together with what follows them, their values are equal, and what follows is equal
abbrev pub ReadsBack : {X : Type 0} → (X → List ℕ) → X → X → Type 0
ReadsBack item x y = (s t : List ℕ) → item x ++ s ≡ item y ++ t → (x ≡ y) × (s ≡ t)

-- bytes of equal lengths
pub bytes_read_back : (x y s t : List ℕ) → length x ≡ length y → x ++ s ≡ y ++ t → (x ≡ y) × (s ≡ t)
bytes_read_back [] [] s t h e = (refl, e)
bytes_read_back [] (b ∷ y) s t h e = absurd (omega arith)
bytes_read_back (a ∷ x) [] s t h e = absurd (omega arith)
bytes_read_back (a ∷ x) (b ∷ y) s t h e =
    let head : a ≡ b = cc in
    let tail : x ++ s ≡ y ++ t = cc in
    let rest = bytes_read_back x y s t (omega arith) tail in
    let first = rest.0 in
    (cc, rest.1)

-- two lists of equal lengths whose items read back
pub items_read_back : {X : Type 0} (item : X → List ℕ) → ((x y : X) → ReadsBack item x y) → (xs ys : List X) → length xs ≡ length ys → ReadsBack (flat_map item) xs ys
items_read_back item one [] [] c s t e = (refl, e)
items_read_back item one [] (y ∷ ys) c s t e = absurd (omega arith)
items_read_back item one (x ∷ xs) [] c s t e = absurd (omega arith)
items_read_back item one (x ∷ xs) (y ∷ ys) c s t e =
    let split : item x ++ (flat_map item xs ++ s) ≡ item y ++ (flat_map item ys ++ t) =
    sym (append_assoc (item x) (flat_map item xs) s) ∙ (e ∙ append_assoc (item y) (flat_map item ys) t) in
    let first = one x y (flat_map item xs ++ s) (flat_map item ys ++ t) split in
    let rest = items_read_back item one xs ys (omega arith) s t first.1 in
    let head = first.0 in let tail = rest.0 in
    (cc, rest.1)
