-- the front of an argument
use Rattle.std.proofs.Common.{◌≡◌, ◌≢◌, ℕ, Bool, true, false, cond, List, [], ◌∷◌, ◌++◌, Option, Some, None, Bor, refl, ap, sym, ◌∙◌, nat_eq, MatchOption}
use Rattle.std.specs.Option.{option_map}
use Rattle.std.proofs.lemmas.Bool.Decides.{Decides-eqb}
use Rattle.cck_cache_options.specs.Table.{after_name}

after_append : (name rest : List ℕ) → after_name name (name ++ rest) ≡ Some rest
after_append [] rest = refl
after_append (n ∷ name) rest =
    let same : nat_eq n n ≡ true = (Decides-eqb n n).1 refl in
    rw same (after_append name rest)

after_none : (name argument : List ℕ) → ((rest : List ℕ) → argument ≢ name ++ rest) → after_name name argument ≡ None
after_none [] argument other = absurd (other argument refl)
after_none (n ∷ name) [] other = refl
after_none (n ∷ name) (b ∷ argument) other = by_first (nat_eq n b) refl (after_none name argument)
  where
    by_first : (t : Bool) → nat_eq n b ≡ t → (((rest : List ℕ) → argument ≢ name ++ rest) → after_name name argument ≡ None) → cond t (after_name name argument) None ≡ None
    by_first false e again = refl
    by_first true e again =
        let same : n ≡ b = (Decides-eqb n b).0 e in
        again (λ rest q. other rest (ap (λ m. m ∷ argument) (sym same) ∙ ap (λ l. n ∷ l) q))

pub stripped : (name argument : List ℕ) (r : Option (Bor (List ℕ))) → MatchOption r ((rest : List ℕ) → argument ≢ name ++ rest) (λ x. argument ≡ name ++ x.now)
    → option_map (λ x. x.now) r ≡ after_name name argument
stripped name argument None other = sym (after_none name argument other)
stripped name argument (Some x) is = sym (ap (after_name name) is ∙ after_append name x.now)
