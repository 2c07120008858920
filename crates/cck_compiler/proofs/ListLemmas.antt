-- Lists of byte strings, copied.
use Rattle.std.proofs.Common.{◌≡◌, ℕ, List, [], ◌∷◌, refl}
use Rattle.std.specs.Prelude.{vec_len}
use Rattle.std.specs.Global.{Vec}
use Rattle.std.specs.List.{AllZip, each_same}
use Rattle.cck_path.specs.Bytes.{lists_of}

-- copies have the same bytes
pub same_lists : (xs ys : List (Vec ℕ)) → AllZip (λ v w. AllZip (λ x y. y ≡ x) v.items w.items × (vec_len w ≡ vec_len v)) xs ys → lists_of ys ≡ lists_of xs
same_lists [] [] z = refl
same_lists [] (y ∷ ys) z = absurd z
same_lists (x ∷ xs) [] z = absurd z
same_lists (x ∷ xs) (y ∷ ys) z = let rest = same_lists xs ys z.1 in let first = each_same x.items y.items z.0.0 in cc
