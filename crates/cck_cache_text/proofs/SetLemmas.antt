-- Sets of byte lists, as paths are added to them.
use Rattle.std.proofs.Common.{◌≡◌, ℕ, zero, suc, ◌+◌, ◌<◌, ◌⊎◌, inl, inr, Bool, true, false, ◌||◌, List, [], ◌∷◌, ◌++◌, Option, Some, Bor, IsTrue, length, map, get_or, refl, sym, ap, ap₂, ◌∙◌, arith}
use Rattle.std.specs.BTreeSet.{BTreeSet, contains_by, insert_key}
use Rattle.std.specs.Cmp.Lexicographic.{slice_cmp}
use Rattle.std.specs.Global.{Vec}
use Rattle.std.specs.List.{AllZip, list_any}
use Rattle.std.specs.Ordering.{match_ordering, is_eq, nat_cmp}
use Rattle.std.specs.Str.{bytes_eq}
use Rattle.std.specs.declared.cmp.Ordering.{Ordering}
use Rattle.std.specs.declared.cmp.Ordering.TheVariants.{Less, Equal, Greater}
use Rattle.std.proofs.lemmas.Bool.{or_cases, or_left, or_right, cases_lt}
use Rattle.std.proofs.lemmas.Map.Text.{is_eq-slice_cmp}
use Rattle.std.proofs.lemmas.Slice.Eq.{bytes_eq-Decides}
use Rattle.std.proofs.lemmas.List.{get_or_default, get_or_at, length-append, length-map, map-append}
use Rattle.std.proofs.lemmas.Map.Iter.{rest_more, rest_so_far}
use Rattle.std.specs.Iterator.{Yields}
use Rattle.std.specs.Map.Iter.{TakesFirst, deref}
use Rattle.std.specs.Prelude.{Contains}
use Rattle.cck_cache_text.specs.Sets.{Adds, IsSetOf, has_key}

-- ---- what a set has

same_tests : (q : List ℕ) (ks : List (Vec ℕ)) → list_any (λ k. is_eq (slice_cmp nat_cmp q k.items)) ks ≡ list_any (λ k. bytes_eq q k.items) ks
same_tests q [] = refl
same_tests q (k ∷ ks) = ap₂ (λ a b. a || b) (is_eq-slice_cmp q k.items) (same_tests q ks)

-- a look-up by bytes
pub contains-has : (s : BTreeSet (Vec ℕ)) (q : List ℕ) → contains_by (λ k. slice_cmp nat_cmp q k.items) s ≡ has_key s q
contains-has s q = same_tests q s.keys

twice : (a r : Bool) → (a || r) ≡ (a || (a || r))
twice true r = refl
twice false r = refl

apart : (a b r : Bool) → (b || (a || r)) ≡ (a || (b || r))
apart true true r = refl
apart true false r = refl
apart false b r = refl

equal_items : (a b : List ℕ) → slice_cmp nat_cmp a b ≡ Equal → a ≡ b
equal_items a b e = (bytes_eq-Decides a b).0 (sym (is_eq-slice_cmp a b) ∙ ap is_eq e)

module _ (q : List ℕ) (k : Vec ℕ) where
  one_more : (x : Vec ℕ) (xs more : List (Vec ℕ)) (o : Ordering) → slice_cmp nat_cmp k.items x.items ≡ o → list_any (λ y. bytes_eq q y.items) more ≡ (bytes_eq q k.items || list_any (λ y. bytes_eq q y.items) xs)
      → list_any (λ y. bytes_eq q y.items) (match_ordering o (k ∷ x ∷ xs) (x ∷ xs) (x ∷ more)) ≡ (bytes_eq q k.items || (bytes_eq q x.items || list_any (λ y. bytes_eq q y.items) xs))
  one_more x xs more Less is e = refl
  one_more x xs more Equal is e =
      rw (equal_items k.items x.items is) (twice (bytes_eq q x.items) (list_any (λ y. bytes_eq q y.items) xs))
  one_more x xs more Greater is e = ap (λ r. bytes_eq q x.items || r) e ∙ apart (bytes_eq q k.items) (bytes_eq q x.items) (list_any (λ y. bytes_eq q y.items) xs)

  inserted : (xs : List (Vec ℕ)) → list_any (λ y. bytes_eq q y.items) (insert_key (λ a b. slice_cmp nat_cmp a.items b.items) xs k) ≡ (bytes_eq q k.items || list_any (λ y. bytes_eq q y.items) xs)
  inserted [] = refl
  inserted (x ∷ xs) = one_more x xs (insert_key (λ a b. slice_cmp nat_cmp a.items b.items) xs k) (slice_cmp nat_cmp k.items x.items) refl (inserted xs)

-- a key that is inserted
pub has-insert : (old new : BTreeSet (Vec ℕ)) (k : Vec ℕ) → new.keys ≡ insert_key (λ a b. slice_cmp nat_cmp a.items b.items) old.keys k → (q : List ℕ) → has_key new q ≡ (bytes_eq q k.items || has_key old q)
has-insert old new k is q = ap (list_any (λ y. bytes_eq q y.items)) is ∙ inserted q k old.keys

module _ (C : Vec ℕ → Vec ℕ → Type 0) (same : (v w : Vec ℕ) → C v w → w.items ≡ v.items) where
  copied : (q : List ℕ) (olds news : List (Vec ℕ)) → AllZip C olds news → list_any (λ y. bytes_eq q y.items) news ≡ list_any (λ y. bytes_eq q y.items) olds
  copied q [] [] are = refl
  copied q [] (new ∷ news) are = absurd are
  copied q (old ∷ olds) [] are = absurd are
  copied q (old ∷ olds) (new ∷ news) are = ap₂ (λ a b. a || b) (ap (bytes_eq q) (same old new are.0)) (copied q olds news are.1)

  -- a set of copies of the keys
  pub has-copy : (old new : BTreeSet (Vec ℕ)) → AllZip C old.keys new.keys → (q : List ℕ) → has_key new q ≡ has_key old q
  has-copy old new are q = copied q old.keys new.keys are

-- a set has the bytes of its keys
pub key_at : (ks : List (Vec ℕ)) (q : List ℕ) → IsTrue (list_any (λ k. bytes_eq q k.items) ks) → (i : ℕ) × (i < length ks) × (get_or (map (λ k. k.items) ks) i [] ≡ q)
key_at [] q h = cc
key_at (k ∷ ks) q h =
    elim (or_cases (bytes_eq q k.items) (list_any (λ k. bytes_eq q k.items) ks) h) [
      | inl here ↦ (0, omega arith, sym ((bytes_eq-Decides q k.items).0 here))
      | inr later ↦ (let more = key_at ks q later in (suc more.0, omega (arith, more.1), more.2))
    ]

pub has_key_at : (ks : List (Vec ℕ)) (i : ℕ) → i < length ks → IsTrue (list_any (λ k. bytes_eq (get_or (map (λ k. k.items) ks) i []) k.items) ks)
has_key_at [] i within = absurd (omega arith)
has_key_at (k ∷ ks) zero within = or_left _ _ ((bytes_eq-Decides k.items k.items).1 refl)
has_key_at (k ∷ ks) (suc i) within = or_right _ _ (has_key_at ks i (omega arith))

-- ---- what is added

pub adds_one : (old new : BTreeSet (Vec ℕ)) (k : Vec ℕ) → new.keys ≡ insert_key (λ a b. slice_cmp nat_cmp a.items b.items) old.keys k → Adds (λ q. q ≡ k.items) old new
adds_one old new k is q =
    let e = has-insert old new k is q in (
      λ h. elim (or_cases (bytes_eq q k.items) (has_key old q) (sym e ∙ h)) [
        | inl a ↦ inl ((bytes_eq-Decides q k.items).0 a)
        | inr b ↦ inr b
      ],
      λ p. elim p [
        | inl a ↦ e ∙ or_left _ _ ((bytes_eq-Decides q k.items).1 a)
        | inr b ↦ e ∙ or_right _ _ b
      ],
    )

module _ (P : List ℕ → Type 0) where
  pub adds_nothing : (old : BTreeSet (Vec ℕ)) → ((q : List ℕ) → P q → ⊥) → Adds P old old
  adds_nothing old none q = (
    λ h. inr h,
    λ p. elim p [
      | inl a ↦ absurd (none q a)
      | inr b ↦ b
    ],
  )

  module _ (Q : List ℕ → Type 0) where
    pub adds_as : (old new : BTreeSet (Vec ℕ)) → ((q : List ℕ) → P q → Q q) → ((q : List ℕ) → Q q → P q) → Adds P old new → Adds Q old new
    adds_as old new f g adds q = (
      λ h. elim ((adds q).0 h) [
        | inl a ↦ inl (f q a)
        | inr b ↦ inr b
      ],
      λ p. elim p [
        | inl a ↦ (adds q).1 (inl (g q a))
        | inr b ↦ (adds q).1 (inr b)
      ],
    )

    pub adds_both : (old middle new : BTreeSet (Vec ℕ)) → Adds P old middle → Adds Q middle new → Adds (λ q. P q ⊎ Q q) old new
    adds_both old middle new first second q = (
      λ h. elim ((second q).0 h) [
        | inl a ↦ inl (inr a)
        | inr b ↦ (elim ((first q).0 b) [
          | inl c ↦ inl (inl c)
          | inr d ↦ inr d
        ])
      ],
      λ p. elim p [
        | inl a ↦ (elim a [
          | inl c ↦ (second q).1 (inr ((first q).1 (inl c)))
          | inr d ↦ (second q).1 (inl d)
        ])
        | inr b ↦ (second q).1 (inr ((first q).1 (inr b)))
      ],
    )

-- what is added at the first i places
abbrev pub Below : (ℕ → List ℕ → Type 0) → ℕ → List ℕ → Type 0
Below P i q = (k : ℕ) × (k < i) × P k q

pub below_more : (P : ℕ → List ℕ → Type 0) (i : ℕ) (q : List ℕ) → Below P i q ⊎ P i q → Below P (i + 1) q
below_more P i q (inl (k, lt, p)) = (k, omega arith, p)
below_more P i q (inr p) = (i, omega arith, p)

pub below_less : (P : ℕ → List ℕ → Type 0) (i : ℕ) (q : List ℕ) → Below P (i + 1) q → Below P i q ⊎ P i q
below_less P i q (k, lt, p) =
    elim (cases_lt k i) [
      | inl below ↦ inl (k, below, p)
      | inr above ↦ (let same : k ≡ i = omega arith in inr (rw same at p))
    ]

pub adds_more : (P : ℕ → List ℕ → Type 0) (i : ℕ) (old middle new : BTreeSet (Vec ℕ)) → Adds (Below P i) old middle → Adds (P i) middle new → Adds (Below P (i + 1)) old new
adds_more P i old middle new first second =
    adds_as (λ q. Below P i q ⊎ P i q) (Below P (i + 1)) old new (below_more P i) (below_less P i) (adds_both (Below P i) (P i) old middle new first second)

pub adds_none_below : (P : ℕ → List ℕ → Type 0) (old : BTreeSet (Vec ℕ)) → Adds (Below P 0) old old
adds_none_below P old = adds_nothing (Below P 0) old (λ q none. omega (arith, none.1))

-- what was added to no keys
pub set_added : (P : List ℕ → Type 0) (old new : BTreeSet (Vec ℕ)) → old.keys ≡ [] → Adds P old new → IsSetOf P new
set_added P old new none adds q = (
  λ h. elim ((adds q).0 h) [
    | inl is ↦ is
    | inr before ↦ absurd (nothing (ap (list_any (λ k. bytes_eq q k.items)) (sym none) ∙ before))
  ],
  λ is. (adds q).1 (inl is),
)
  where
    nothing : false ≡ true → ⊥
    nothing e = cc

-- ---- a loop over the keys of a set

pub set_turn : (keys : List (Vec ℕ)) (xs : List (Bor (Vec ℕ))) (s t u : List (Vec ℕ)) (r : Option (Bor (Vec ℕ))) (x : Bor (Vec ℕ)) → s ≡ keys → Yields (TakesFirst deref) s xs t → r ≡ Some x → TakesFirst deref t r u
    → (length xs < length keys) × (get_or (map (λ k. k.items) keys) (length xs) [] ≡ x.now.items)
set_turn keys xs s t u r x start yields is step =
    let so_far : s ≡ map deref xs ++ t = rest_so_far deref xs s t yields in
    let now : t ≡ x.now ∷ u = rest_more deref t u r x is step in
    let all : keys ≡ map deref xs ++ x.now ∷ u = sym start ∙ (so_far ∙ ap (λ l. map deref xs ++ l) now) in
    let size : length (map (λ (k : Vec ℕ). k.items) (map deref xs)) ≡ length xs = length-map (map deref xs) (λ k. k.items) ∙ length-map xs deref in (
      omega (arith, ap length all, length-append (map deref xs) (x.now ∷ u), length-map xs deref),
      ap (λ (ks : List (Vec ℕ)). get_or (map (λ k. k.items) ks) (length xs) []) all
          ∙ (ap (λ (l : List (List ℕ)). get_or l (length xs) []) (map-append (λ k. k.items) (map deref xs) (x.now ∷ u))
          ∙ get_or_at (map (λ k. k.items) (map deref xs)) x.now.items (map (λ k. k.items) u) [] (length xs) size),
    )
