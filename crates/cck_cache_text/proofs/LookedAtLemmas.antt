-- The paths at which headers are looked for.
use Rattle.std.proofs.Common.{◌≡◌, ◌∙◌, ℕ, ◌⊎◌, inl, inr, Bool, true, false, List, [], ◌++◌, IsTrue, get_or, length, map, sym, ap, subst, arith}
use Rattle.std.specs.BTreeSet.{BTreeSet}
use Rattle.std.specs.Global.{Vec}
use Rattle.cck_include.specs.Marks.{Mark}
use Rattle.cck_cache_text.specs.Absent.{path_in}
use Rattle.cck_cache_text.specs.Included.{AreIncluded}
use Rattle.cck_cache_text.specs.LookedAt.{IsInPlace, IsLookedAt, IsUnnamedPath}
use Rattle.cck_cache_text.specs.Names.{AreNames, is_named, is_place}
use Rattle.cck_cache_text.specs.Sets.{Adds, IsSetOf, has_key}
use Rattle.cck_cache_text.specs.TestedPaths.{IsInList, is_absolute}
use Rattle.cck_cache_text.specs.declared.included.Included.{Included}
use Rattle.cck_cache_text.specs.declared.names.Named.{Named}
use Rattle.cck_cache_text.proofs.IncludedLemmas.{from_nothing}
use Rattle.cck_cache_text.proofs.SetLemmas.{Below, adds_as, adds_both, adds_nothing, has_key_at, key_at}

false_true : false ≡ true → ⊥
false_true e = cc

-- this path, if the text does not name it
abbrev pub UnnamedAt : (List ℕ → Bool) → List ℕ → List ℕ → Type 0
UnnamedAt names path q = (names q ≡ false) × (q ≡ path)

pub unnamed_new : (names : List ℕ → Bool) (path : List ℕ) (old new : BTreeSet (Vec ℕ)) → names path ≡ false → Adds (λ q. q ≡ path) old new → Adds (UnnamedAt names path) old new
unnamed_new names path old new none = adds_as (λ q. q ≡ path) (UnnamedAt names path) old new (λ q is. (ap names is ∙ none, is)) (λ q h. h.1)

pub unnamed_old : (names : List ℕ → Bool) (path : List ℕ) (old : BTreeSet (Vec ℕ)) → names path ≡ true → Adds (UnnamedAt names path) old old
unnamed_old names path old known = adds_nothing (UnnamedAt names path) old (λ q h. false_true (sym h.0 ∙ (ap names h.1 ∙ known)))

-- what is added for each key of a set
abbrev pub ForKey : (List ℕ → List ℕ → Type 0) → List (Vec ℕ) → ℕ → List ℕ → Type 0
ForKey P keys k q = P (get_or (map (λ key. key.items) keys) k []) q

pub for_keys : (P : List ℕ → List ℕ → Type 0) (keys : BTreeSet (Vec ℕ)) (count : ℕ) (old new : BTreeSet (Vec ℕ)) → count ≡ length keys.keys → Adds (Below (ForKey P keys.keys) count) old new → Adds (λ q. (key : List ℕ) × IsTrue (has_key keys key) × P key q) old new
for_keys P keys count old new end = adds_as (Below (ForKey P keys.keys) count) (λ q. (key : List ℕ) × IsTrue (has_key keys key) × P key q) old new to from
  where
    to : (q : List ℕ) → Below (ForKey P keys.keys) count q → (key : List ℕ) × IsTrue (has_key keys key) × P key q
    to q (k, lt, here) = (get_or (map (λ key. key.items) keys.keys) k [], has_key_at keys.keys k (omega (arith, lt, end)), here)

    from : (q : List ℕ) → (key : List ℕ) × IsTrue (has_key keys key) × P key q → Below (ForKey P keys.keys) count q
    from q (key, known, here) =
        let at = key_at keys.keys key known in
        (at.0, omega (arith, end, at.1), subst (λ (name : List ℕ). P name q) (sym at.2) here)

-- the paths of a name in the places of a text
pub in_places : (names : List ℕ → Bool) (keys : BTreeSet (Vec ℕ)) (name : List ℕ) (count : ℕ) (old new : BTreeSet (Vec ℕ)) → count ≡ length keys.keys → Adds (Below (ForKey (λ directory. UnnamedAt names (directory ++ name)) keys.keys) count) old new
    → Adds (λ q. (names q ≡ false) × IsInPlace (has_key keys) name q) old new
in_places names keys name count old new end adds =
    adds_as (λ q. (directory : List ℕ) × IsTrue (has_key keys directory) × UnnamedAt names (directory ++ name) q) (λ q. (names q ≡ false) × IsInPlace (has_key keys) name q) old new
    (λ q h. (h.2.0, (h.0, h.1, h.2.1))) (λ q h. (h.1.0, h.1.1, (h.0, h.1.2)))
    (for_keys (λ directory. UnnamedAt names (directory ++ name)) keys count old new end adds)

-- the path of a name in the directory at a place of a list
abbrev pub UnnamedIn : (List ℕ → Bool) → List (List ℕ) → List ℕ → ℕ → List ℕ → Type 0
UnnamedIn names directories name k q = UnnamedAt names (path_in (get_or directories k []) name) q

pub in_list : (names : List ℕ → Bool) (directories : List (List ℕ)) (name : List ℕ) (count : ℕ) (old new : BTreeSet (Vec ℕ)) → count ≡ length directories → Adds (Below (UnnamedIn names directories name) count) old new
    → Adds (λ q. (names q ≡ false) × IsInList directories name q) old new
in_list names directories name count old new end =
    adds_as (Below (UnnamedIn names directories name) count) (λ q. (names q ≡ false) × IsInList directories name q) old new to from
  where
    to : (q : List ℕ) → Below (UnnamedIn names directories name) count q → (names q ≡ false) × IsInList directories name q
    to q (k, lt, (none, is)) = (none, (k, omega (arith, lt, end), is))

    from : (q : List ℕ) → (names q ≡ false) × IsInList directories name q → Below (UnnamedIn names directories name) count q
    from q (none, (k, lt, is)) = (k, omega (arith, lt, end), (none, is))

module _ (names places : List ℕ → Bool) (directories : List (List ℕ)) (name : List ℕ) (old new : BTreeSet (Vec ℕ)) where
  -- an absolute name
  pub paths_absolute : (is_quoted : Bool) → is_absolute name ≡ true → Adds (UnnamedAt names name) old new → Adds (IsUnnamedPath names places directories name is_quoted) old new
  paths_absolute is_quoted is = adds_as (UnnamedAt names name) (IsUnnamedPath names places directories name is_quoted) old new (λ q h. (h.0, inl (is, h.1))) from
    where
      from : (q : List ℕ) → IsUnnamedPath names places directories name is_quoted q → UnnamedAt names name q
      from q (none, inl h) = (none, h.1)
      from q (none, inr h) = absurd (false_true (sym h.0 ∙ is))

  -- another name, in quotes
  pub paths_quoted : (is_quoted : Bool) (middle : BTreeSet (Vec ℕ)) → is_absolute name ≡ false → is_quoted ≡ true → Adds (λ q. (names q ≡ false) × IsInPlace places name q) old middle
      → Adds (λ q. (names q ≡ false) × IsInList directories name q) middle new → Adds (IsUnnamedPath names places directories name is_quoted) old new
  paths_quoted is_quoted middle is quoted a b =
      adds_as (λ q. A q ⊎ B q) (IsUnnamedPath names places directories name is_quoted) old new to from (adds_both A B old middle new a b)
    where
      A : List ℕ → Type 0
      A q = (names q ≡ false) × IsInPlace places name q

      B : List ℕ → Type 0
      B q = (names q ≡ false) × IsInList directories name q

      to : (q : List ℕ) → A q ⊎ B q → IsUnnamedPath names places directories name is_quoted q
      to q (inl h) = (h.0, inr (is, inl (quoted, h.1)))
      to q (inr h) = (h.0, inr (is, inr h.1))

      from : (q : List ℕ) → IsUnnamedPath names places directories name is_quoted q → A q ⊎ B q
      from q (none, inl h) = absurd (false_true (sym is ∙ h.0))
      from q (none, inr (_, inl h)) = inl (none, h.1)
      from q (none, inr (_, inr h)) = inr (none, h)

  -- another name, in brackets
  pub paths_bracketed : (is_quoted : Bool) → is_absolute name ≡ false → is_quoted ≡ false → Adds (λ q. (names q ≡ false) × IsInList directories name q) old new → Adds (IsUnnamedPath names places directories name is_quoted) old new
  paths_bracketed is_quoted is brackets =
      adds_as (λ q. (names q ≡ false) × IsInList directories name q) (IsUnnamedPath names places directories name is_quoted) old new (λ q h. (h.0, inr (is, inr h.1))) from
    where
      from : (q : List ℕ) → IsUnnamedPath names places directories name is_quoted q → (names q ≡ false) × IsInList directories name q
      from q (none, inl h) = absurd (false_true (sym is ∙ h.0))
      from q (none, inr (_, inl h)) = absurd (false_true (sym brackets ∙ h.0))
      from q (none, inr (_, inr h)) = (none, h)

-- ---- all paths, by the marks of a text

-- what is added for all names
abbrev pub ForNames : (List ℕ → Bool) → (List ℕ → Bool) → List (List ℕ) → BTreeSet (Vec ℕ) → Bool → List ℕ → Type 0
ForNames names places directories keys is_quoted q = (name : List ℕ) × IsTrue (has_key keys name) × IsUnnamedPath names places directories name is_quoted q

module _ (text : List ℕ) (arguments directories : List (List ℕ)) (marks : List Mark) (named : Named) (are : AreNames marks named) (included : Included) (are_included : AreIncluded text arguments included) where
  names : has_key named.names ≡ is_named marks
  names = λ i q. are.names q i

  places : has_key named.directories ≡ is_place marks
  places = λ i d. are.directories d i

  by_marks : (keys old new : BTreeSet (Vec ℕ)) (is_quoted : Bool) → Adds (ForNames (has_key named.names) (has_key named.directories) directories keys is_quoted) old new → Adds (ForNames (is_named marks) (is_place marks) directories keys is_quoted) old new
  by_marks keys old new is_quoted adds =
      subst (λ (p : List ℕ → Bool). Adds (ForNames p (is_place marks) directories keys is_quoted) old new) names
      (subst (λ (p : List ℕ → Bool). Adds (ForNames (has_key named.names) p directories keys is_quoted) old new) places adds)

  pub all_looked_at : (old middle new : BTreeSet (Vec ℕ)) → old.keys ≡ [] → Adds (ForNames (has_key named.names) (has_key named.directories) directories included.quoted true) old middle
      → Adds (ForNames (has_key named.names) (has_key named.directories) directories included.bracketed false) middle new → IsSetOf (IsLookedAt marks text arguments directories) new
  all_looked_at old middle new none a b = from_nothing (IsLookedAt marks text arguments directories) old new none
      (adds_as (λ q. A q ⊎ B q) (IsLookedAt marks text arguments directories) old new to from
      (adds_both A B old middle new (by_marks included.quoted old middle true a) (by_marks included.bracketed middle new false b)))
    where
      A : List ℕ → Type 0
      A q = ForNames (is_named marks) (is_place marks) directories included.quoted true q

      B : List ℕ → Type 0
      B q = ForNames (is_named marks) (is_place marks) directories included.bracketed false q

      to : (q : List ℕ) → A q ⊎ B q → IsLookedAt marks text arguments directories q
      to q (inl (name, known, path)) = (name, true, (are_included.quoted name).0 known, path)
      to q (inr (name, known, path)) = (name, false, (are_included.bracketed name).0 known, path)

      from : (q : List ℕ) → IsLookedAt marks text arguments directories q → A q ⊎ B q
      from q (name, true, header, path) = inl (name, (are_included.quoted name).1 header, path)
      from q (name, false, header, path) = inr (name, (are_included.bracketed name).1 header, path)
