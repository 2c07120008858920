-- the last slash of a path, and the last point of a name
use Rattle.std.proofs.Common.{◌≡◌, ℕ, zero, suc, ◌<◌, ◌==◌, true, List, [], ◌∷◌, ◌++◌, length, get_or, take, drop, refl, ap, sym, ◌∙◌, inl, inr, arith, append_assoc}
use Rattle.std.proofs.lemmas.Bool.Decides.{Decides-eqb}
use Rattle.cck_cache_options.specs.Paths.{HasNo, IsNameIn, IsStem}

-- no byte from here on is this one
abbrev pub NoneFrom : ℕ → List ℕ → ℕ → Type 0
NoneFrom byte bytes from = (j : ℕ) → from < suc j → j < length bytes → (get_or bytes j 0 == byte) ≡ true → ⊥

none_in : (byte : ℕ) (bytes : List ℕ) → NoneFrom byte bytes 0 → HasNo byte bytes
none_in byte [] none = tt
none_in byte (b ∷ bytes) none =
    (λ e. none zero (omega arith) (omega arith) ((Decides-eqb b byte).1 e), none_in byte bytes (λ j from lt. none (suc j) (omega arith) (omega arith)))

-- bytes before a byte at which they are divided, and after it
record IsDivided (byte : ℕ) (bytes : List ℕ) (k : ℕ) : Type 0 where
  whole : bytes ≡ take k bytes ++ byte ∷ drop (suc k) bytes
  none : HasNo byte (drop (suc k) bytes)

divided : (byte : ℕ) (bytes : List ℕ) (k : ℕ) → k < length bytes → (get_or bytes k 0 == byte) ≡ true → NoneFrom byte bytes (suc k) → IsDivided byte bytes k
divided byte [] k lt here none = absurd (omega arith)
divided byte (b ∷ bytes) zero lt here none =
    record { whole = ap (λ x. x ∷ bytes) ((Decides-eqb b byte).0 here); none = none_in byte bytes (λ j from within. none (suc j) (omega arith) (omega arith)) }
divided byte (b ∷ bytes) (suc k) lt here none =
    let rest = divided byte bytes k (omega arith) here (λ j from within. none (suc j) (omega arith) (omega arith)) in
    record { whole = ap (λ l. b ∷ l) rest.whole; none = rest.none }

taken : (byte : ℕ) (bytes : List ℕ) (k : ℕ) → k < length bytes → (get_or bytes k 0 == byte) ≡ true → take (suc k) bytes ≡ take k bytes ++ byte ∷ []
taken byte [] k lt here = absurd (omega arith)
taken byte (b ∷ bytes) zero lt here = ap (λ x. x ∷ []) ((Decides-eqb b byte).0 here)
taken byte (b ∷ bytes) (suc k) lt here = ap (λ l. b ∷ l) (taken byte bytes k (omega arith) here)

pub stem_at : (name : List ℕ) (k : ℕ) → k < length name → (get_or name k 0 == 46) ≡ true → NoneFrom 46 name (suc k) → IsStem name (take k name)
stem_at name k lt here none = let d = divided 46 name k lt here none in inl (drop (suc k) name, d.whole, d.none)

pub no_stem : (name : List ℕ) → NoneFrom 46 name 0 → IsStem name name
no_stem name none = inr (refl, none_in 46 name none)

pub name_at : (path : List ℕ) (k : ℕ) → k < length path → (get_or path k 0 == 47) ≡ true → NoneFrom 47 path (suc k) → IsNameIn path (take (suc k) path) (drop (suc k) path)
name_at path k lt here none =
    let d = divided 47 path k lt here none in
    let t = taken 47 path k lt here in
    record {
      whole = d.whole ∙ sym (append_assoc (take k path) (47 ∷ []) (drop (suc k) path)) ∙ ap (λ l. l ++ drop (suc k) path) (sym t);
      is_name = d.none;
      is_directory = inr (take k path, t);
    }

pub no_directory : (path : List ℕ) → NoneFrom 47 path 0 → IsNameIn path [] path
no_directory path none = record { whole = refl; is_name = none_in 47 path none; is_directory = inl refl }
