-- The paths that are added for a name.
use Rattle.std.proofs.Common.{◌≡◌, ◌≢◌, ℕ, ◌+◌, ◌<◌, ◌⊎◌, ◌↔◌, ◌||◌, inl, inr, Bool, true, false, List, [], ◌++◌, Option, Some, None, Bor, IsTrue, length, map, get_or, refl, sym, ap, subst, ◌∙◌, arith}
use Rattle.std.proofs.lemmas.List.{append_cancel_left, length-map}
use Rattle.std.specs.BTreeSet.{BTreeSet}
use Rattle.std.specs.Global.{Vec}
use Rattle.std.specs.Option.{MatchOption, option_map}
use Rattle.std.specs.Prelude.{Contains}
use Rattle.std.proofs.lemmas.Bool.{cases_lt, or_cases, or_left, or_right}
use Rattle.cck_include.specs.Marks.{Mark}
use Rattle.cck_cache_text.specs.Included.{IsHeader}
use Rattle.cck_cache_text.specs.Names.{AreNames, is_named, is_place}
use Rattle.cck_cache_text.specs.SearchList.{SearchFields}
use Rattle.cck_cache_text.specs.declared.names.Named.{Named}
use Rattle.cck_cache_text.proofs.NameLemmas.{system_named}
use Rattle.cck_cache_text.specs.Absent.{AreAbsentNames, AreAdded, IsBeforeDirectory, IsBeside, IsEarlier, IsForImplicit, IsForName, IsListed, IsInDirectory, implicit_header, path_in, precompiled}
use Rattle.cck_cache_rules.specs.Reading.{ReadsBack}
use Rattle.cck_cache_text.specs.Sets.{Adds, IsSetOf, has_key}
use Rattle.cck_cache_text.proofs.SetLemmas.{Below, adds_as, adds_both, adds_nothing, has_key_at, key_at}

-- the rest of a name in a directory
pub within_read : (name directory between middle : List ℕ) (r : Option (Bor (List ℕ))) → name ≡ directory ++ middle → MatchOption r ((rest : List ℕ) → middle ≢ between ++ rest) (λ x. middle ≡ between ++ x.now)
    → ReadsBack (λ rest. directory ++ (between ++ rest)) name (option_map (λ rest. rest.now) r)
within_read name directory between middle None is none = λ rest same. none rest (append_cancel_left directory middle (between ++ rest) (sym is ∙ sym same))
within_read name directory between middle (Some x) is begins = (
  ap (λ m. directory ++ m) (sym begins) ∙ sym is,
  λ rest same. append_cancel_left between rest x.now (append_cancel_left directory (between ++ rest) (between ++ x.now) (same ∙ (is ∙ ap (λ m. directory ++ m) begins))),
)

module _ (names : List ℕ → Bool) (path first : List ℕ) (is : first ≡ precompiled path) (old new : BTreeSet (Vec ℕ)) where
  -- a path that no mark names
  pub beside_new : (middle : BTreeSet (Vec ℕ)) → names path ≡ false → Adds (λ q. q ≡ first) old middle → Adds (λ q. q ≡ path) middle new → Adds (IsBeside names path) old new
  beside_new middle unnamed a b =
      adds_as (λ q. (q ≡ first) ⊎ (q ≡ path)) (IsBeside names path) old new to from (adds_both (λ q. q ≡ first) (λ q. q ≡ path) old middle new a b)
    where
      to : (q : List ℕ) → (q ≡ first) ⊎ (q ≡ path) → IsBeside names path q
      to q (inl e) = inl (e ∙ is)
      to q (inr e) = inr (e, unnamed)

      from : (q : List ℕ) → IsBeside names path q → (q ≡ first) ⊎ (q ≡ path)
      from q (inl e) = inl (e ∙ sym is)
      from q (inr (e, h)) = inr e

  -- a path that a mark names
  pub beside_old : names path ≡ true → Adds (λ q. q ≡ first) old new → Adds (IsBeside names path) old new
  beside_old named a = adds_as (λ q. q ≡ first) (IsBeside names path) old new (λ q e. inl (e ∙ is)) from a
    where
      clash : true ≡ false → ⊥
      clash e = cc

      from : (q : List ℕ) → IsBeside names path q → q ≡ first
      from q (inl e) = e ∙ sym is
      from q (inr (e, h)) = absurd (clash (sym named ∙ h))

-- what is added in the directories of the files of a text
abbrev pub InPlace : (List ℕ → Bool) → List (List ℕ) → List ℕ → ℕ → List ℕ → Type 0
InPlace names keys rest k q = IsBeside names (get_or keys k [] ++ rest) q

pub in_places : (names : List ℕ → Bool) (keys : BTreeSet (Vec ℕ)) (rest : List ℕ) (n : ℕ) (old new : BTreeSet (Vec ℕ)) → n ≡ length keys.keys → Adds (Below (InPlace names (map (λ k. k.items) keys.keys) rest) n) old new
    → Adds (λ q. (directory : List ℕ) × IsTrue (has_key keys directory) × IsBeside names (directory ++ rest) q) old new
in_places names keys rest n old new is =
    adds_as (Below (InPlace names (map (λ k. k.items) keys.keys) rest) n) (λ q. (directory : List ℕ) × IsTrue (has_key keys directory) × IsBeside names (directory ++ rest) q) old new to from
  where
    to : (q : List ℕ) → Below (InPlace names (map (λ k. k.items) keys.keys) rest) n q → (directory : List ℕ) × IsTrue (has_key keys directory) × IsBeside names (directory ++ rest) q
    to q (k, lt, beside) = (get_or (map (λ k. k.items) keys.keys) k [], has_key_at keys.keys k (omega (arith, is)), beside)

    from : (q : List ℕ) → (directory : List ℕ) × IsTrue (has_key keys directory) × IsBeside names (directory ++ rest) q → Below (InPlace names (map (λ k. k.items) keys.keys) rest) n q
    from q (directory, known, beside) =
        let at = key_at keys.keys directory known in
        (at.0, omega (arith, is, at.1), rw at.2 beside)

-- what is added in earlier directories
abbrev pub InDirectory : (List ℕ → Bool) → List (List ℕ) → List ℕ → ℕ → List ℕ → Type 0
InDirectory names directories rest k q = IsBeside names (path_in (get_or directories k []) rest) q

module _ (places names : List ℕ → Bool) (Quoted : List ℕ → Type 0) (directories earlier : List (List ℕ)) (place : ℕ) (name rest : List ℕ) (is : path_in (get_or directories place []) rest ≡ name)
    (only : (other : List ℕ) → path_in (get_or directories place []) other ≡ name → other ≡ rest) (n : ℕ) (size : n ≡ place) (same : (k : ℕ) → k < place → get_or earlier k [] ≡ get_or directories k []) where
  abbrev First : List ℕ → Type 0
  First q = Quoted rest × ((directory : List ℕ) × IsTrue (places directory) × IsBeside names (directory ++ rest) q)

  abbrev Second : List ℕ → Type 0
  Second q = Below (InDirectory names earlier rest) n q

  to_before : (q : List ℕ) → First q ⊎ Second q → IsBeforeDirectory places names Quoted directories name place q
  to_before q (inl (quoted, (d, known, beside))) = (rest, d ++ rest, is, inl (quoted, (d, known, refl)), beside)
  to_before q (inr (k, lt, beside)) = (rest, path_in (get_or earlier k []) rest, is, inr (k, omega (arith, size), ap (λ d. path_in d rest) (same k (omega (arith, size)))), beside)

  from_earlier : (q other path : List ℕ) → other ≡ rest → IsEarlier places Quoted directories place other path → IsBeside names path q → First q ⊎ Second q
  from_earlier q other path e (inl (quoted, (d, known, at))) beside =
      inl (subst Quoted e quoted, (d, known, subst (λ (p : List ℕ). IsBeside names p q) (at ∙ ap (λ r. d ++ r) e) beside))
  from_earlier q other path e (inr (k, lt, at)) beside =
      inr (k, omega (arith, size), subst (λ (p : List ℕ). IsBeside names p q) (at ∙ (ap (λ r. path_in (get_or directories k []) r) e ∙ ap (λ d. path_in d rest) (sym (same k lt)))) beside)

  from_before : (q : List ℕ) → IsBeforeDirectory places names Quoted directories name place q → First q ⊎ Second q
  from_before q (other, path, at, earlier_one, beside) = from_earlier q other path (only other at) earlier_one beside

  -- what is added before the directory in which a name was found
  pub before_found : (old middle new : BTreeSet (Vec ℕ)) → Adds First old middle
      → Adds (Below (InDirectory names earlier rest) n) middle new → Adds (IsBeforeDirectory places names Quoted directories name place) old new
  before_found old middle new a b =
      adds_as (λ q. First q ⊎ Second q) (IsBeforeDirectory places names Quoted directories name place) old new to_before from_before (adds_both First Second old middle new a b)

-- nothing is added where a name is not in the directory
pub nothing_before : (places names : List ℕ → Bool) (Quoted : List ℕ → Type 0) (directories : List (List ℕ)) (place : ℕ) (name : List ℕ) (old : BTreeSet (Vec ℕ)) → ((rest : List ℕ) → path_in (get_or directories place []) rest ≡ name → ⊥)
    → Adds (IsBeforeDirectory places names Quoted directories name place) old old
nothing_before places names Quoted directories place name old none =
    adds_nothing (IsBeforeDirectory places names Quoted directories name place) old (λ q before. none before.0 before.2)

-- what is added for one name
pub for_name : (places names : List ℕ → Bool) (Quoted : List ℕ → Type 0) (directories : List (List ℕ)) (name first : List ℕ) (n : ℕ) (old middle new : BTreeSet (Vec ℕ)) → first ≡ precompiled name → n ≡ length directories
    → Adds (λ q. q ≡ first) old middle → Adds (Below (IsBeforeDirectory places names Quoted directories name) n) middle new → Adds (IsForName places names Quoted directories name) old new
for_name places names Quoted directories name first n old middle new is size a b =
    adds_as (λ q. (q ≡ first) ⊎ Below (IsBeforeDirectory places names Quoted directories name) n q) (IsForName places names Quoted directories name) old new to from (adds_both (λ q. q ≡ first) (Below (IsBeforeDirectory places names Quoted directories name) n) old middle new a b)
  where
    to : (q : List ℕ) → (q ≡ first) ⊎ Below (IsBeforeDirectory places names Quoted directories name) n q → IsForName places names Quoted directories name q
    to q (inl e) = inl (e ∙ is)
    to q (inr (k, lt, before)) = inr (k, omega (arith, size), before)

    from : (q : List ℕ) → IsForName places names Quoted directories name q → (q ≡ first) ⊎ Below (IsBeforeDirectory places names Quoted directories name) n q
    from q (inl e) = inl (e ∙ sym is)
    from q (inr (k, lt, before)) = inr (k, omega (arith, size), before)

-- one more directory
pub within_more : (directories : List (List ℕ)) (name : List ℕ) (n : ℕ) (before here : Bool) → (IsTrue before ↔ ((place : ℕ) × (place < n) × IsInDirectory directories name place)) → (IsTrue here ↔ IsInDirectory directories name n)
    → IsTrue (before || here) ↔ ((place : ℕ) × (place < n + 1) × IsInDirectory directories name place)
within_more directories name n before here old new = (
  λ h. elim (or_cases before here h) [
    | inl a ↦ (let found = old.0 a in (found.0, omega (arith, found.1), found.2))
    | inr b ↦ (n, omega arith, new.0 b)
  ],
  λ w. elim (cases_lt w.0 n) [
    | inl below ↦ or_left before here (old.1 (w.0, below, w.2))
    | inr above ↦ (let same : w.0 ≡ n = omega (arith, w.1, above) in or_right before here (new.1 (subst (λ (k : ℕ). IsInDirectory directories name k) same w.2)))
  ],
)

-- what is added for all names
abbrev pub AtName : (List ℕ → Bool) → (List ℕ → Bool) → (List ℕ → Type 0) → List (List ℕ) → List (List ℕ) → ℕ → List ℕ → Type 0
AtName places names Quoted directories keys k q = IsForName places names Quoted directories (get_or keys k []) q

pub for_names : (places names : List ℕ → Bool) (Quoted : List ℕ → Type 0) (directories : List (List ℕ)) (keys : BTreeSet (Vec ℕ)) (n : ℕ) (old new : BTreeSet (Vec ℕ)) → n ≡ length keys.keys → Adds (Below (AtName places names Quoted directories (map (λ k. k.items) keys.keys)) n) old new
    → Adds (λ q. (name : List ℕ) × IsTrue (has_key keys name) × IsForName places names Quoted directories name q) old new
for_names places names Quoted directories keys n old new is =
    adds_as (Below (AtName places names Quoted directories (map (λ k. k.items) keys.keys)) n) (λ q. (name : List ℕ) × IsTrue (has_key keys name) × IsForName places names Quoted directories name q) old new to from
  where
    to : (q : List ℕ) → Below (AtName places names Quoted directories (map (λ k. k.items) keys.keys)) n q → (name : List ℕ) × IsTrue (has_key keys name) × IsForName places names Quoted directories name q
    to q (k, lt, path) = (get_or (map (λ k. k.items) keys.keys) k [], has_key_at keys.keys k (omega (arith, is)), path)

    from : (q : List ℕ) → (name : List ℕ) × IsTrue (has_key keys name) × IsForName places names Quoted directories name q → Below (AtName places names Quoted directories (map (λ k. k.items) keys.keys)) n q
    from q (name, known, path) =
        let at = key_at keys.keys name known in
        (at.0, omega (arith, is, at.1), rw at.2 path)

-- the same paths, where the names in quotes are told in another way
pub for_quoted : (places names : List ℕ → Bool) (Quoted Others : List ℕ → Type 0) (directories : List (List ℕ)) (name absent : List ℕ) → ((rest : List ℕ) → Quoted rest → Others rest)
    → IsForName places names Quoted directories name absent → IsForName places names Others directories name absent
for_quoted places names Quoted Others directories name absent to (inl e) = inl e
for_quoted places names Quoted Others directories name absent to (inr (place, lt, (rest, path, is, inl (quoted, at), beside))) = inr (place, lt, (rest, path, is, inl (to rest quoted, at), beside))
for_quoted places names Quoted Others directories name absent to (inr (place, lt, (rest, path, is, inr at, beside))) = inr (place, lt, (rest, path, is, inr at, beside))

-- each system header so far is listed
abbrev pub ListedBelow : (List ℕ → Bool) → List (List ℕ) → List (List ℕ) → ℕ → Type 0
ListedBelow systems directories keys n = (k : ℕ) → k < n → IsTrue (systems (get_or keys k [])) → IsListed directories (get_or keys k [])

pub listed_more : (systems : List ℕ → Bool) (directories keys : List (List ℕ)) (n : ℕ) → ListedBelow systems directories keys n → (IsTrue (systems (get_or keys n [])) → IsListed directories (get_or keys n [])) → ListedBelow systems directories keys (n + 1)
listed_more systems directories keys n before here k lt system =
    elim (cases_lt k n) [
      | inl below ↦ before k below system
      | inr above ↦ (let same : k ≡ n = omega arith in rw same (here (rw same at system)))
    ]

pub all_listed : (systems : List ℕ → Bool) (directories : List (List ℕ)) (keys : BTreeSet (Vec ℕ)) (n : ℕ) → n ≡ length keys.keys → ListedBelow systems directories (map (λ k. k.items) keys.keys) n
    → (name : List ℕ) → IsTrue (has_key keys name) → IsTrue (systems name) → IsListed directories name
all_listed systems directories keys n is listed name known system =
    let at = key_at keys.keys name known in
    rw (← at.2) (listed at.0 (omega (arith, is, at.1)) (rw at.2 system))

-- what is added for the header that no directive includes, in the directories as they are kept
abbrev pub InFirst : (List ℕ → Bool) → List (Vec ℕ) → List ℕ → Type 0
InFirst names directories q = (place : ℕ) × (place < length directories) × IsBeside names (path_in (get_or (map (λ d. d.items) directories) place []) implicit_header) q

pub for_implicit : (names : List ℕ → Bool) (directories : List (Vec ℕ)) (old new : BTreeSet (Vec ℕ))
    → Adds (InFirst names directories) old new
    → Adds (IsForImplicit names (map (λ d. d.items) directories)) old new
for_implicit names directories old new =
    adds_as (InFirst names directories)
    (IsForImplicit names (map (λ d. d.items) directories)) old new
    (λ q h. (h.0, omega (arith, length-map directories (λ d. d.items), h.1), h.2)) (λ q h. (h.0, omega (arith, length-map directories (λ d. d.items), h.1), h.2))

-- ---- all paths, by the marks of a text

module _ (text : List ℕ) (arguments : List (List ℕ)) (quoted : BTreeSet (Vec ℕ)) (are_quoted : IsSetOf (IsHeader text arguments true) quoted)
    (marks : List Mark) (named : Named) (are : AreNames marks named) (search : SearchFields) (first start : BTreeSet (Vec ℕ)) (missing : IsSetOf (Contains search.missing) first)
    (implicit : Adds (IsForImplicit (has_key named.names) search.directories) first start) where
  abbrev Quoted : List ℕ → Type 0
  Quoted rest = IsTrue (has_key quoted rest)

  pub none_found : (new : BTreeSet (Vec ℕ)) → AreAdded (has_key named.directories) (has_key named.names) (has_key named.systems) Quoted search.directories start new false → AreAbsentNames marks text arguments search None
  none_found new (name, system, known, none) = (name, sym (are.systems name) ∙ system, none)

  pub all_found : (new : BTreeSet (Vec ℕ)) → AreAdded (has_key named.directories) (has_key named.names) (has_key named.systems) Quoted search.directories start new true → AreAbsentNames marks text arguments search (Some new)
  all_found new (listed, added) = (
    λ name system. listed name (are.names name ∙ system_named marks name system) (are.systems name ∙ system),
    λ q. (
      λ h. elim ((by_text q).0 h) [
        | inl a ↦ inr (inr a)
        | inr b ↦ elim ((first_by_marks q).0 b) [
          | inl i ↦ inr (inl i)
          | inr m ↦ inl ((missing q).0 m)
        ]
      ],
      λ p. elim p [
        | inl m ↦ (by_text q).1 (inr ((first_by_marks q).1 (inr ((missing q).1 m))))
        | inr b ↦ elim b [
          | inl i ↦ (by_text q).1 (inr ((first_by_marks q).1 (inl i)))
          | inr a ↦ (by_text q).1 (inl a)
        ]
      ],
    ),
  )
    where
      Added : (List ℕ → Bool) → (List ℕ → Bool) → (List ℕ → Type 0) → List ℕ → Type 0
      Added places names Quotes absent = (name : List ℕ) × IsTrue (names name) × IsForName places names Quotes search.directories name absent

      places : has_key named.directories ≡ is_place marks
      places = λ i d. are.directories d i

      names : has_key named.names ≡ is_named marks
      names = λ i q. are.names q i

      first_by_marks : Adds (IsForImplicit (is_named marks) search.directories) first start
      first_by_marks = subst (λ (p : List ℕ → Bool). Adds (IsForImplicit p search.directories) first start) names implicit

      by_places : Adds (Added (is_place marks) (has_key named.names) Quoted) start new
      by_places = subst (λ (p : List ℕ → Bool). Adds (Added p (has_key named.names) Quoted) start new) places added

      by_marks : Adds (Added (is_place marks) (is_named marks) Quoted) start new
      by_marks = subst (λ (p : List ℕ → Bool). Adds (Added (is_place marks) p Quoted) start new) names by_places

      by_text : Adds (Added (is_place marks) (is_named marks) (IsHeader text arguments true)) start new
      by_text = adds_as (Added (is_place marks) (is_named marks) Quoted) (Added (is_place marks) (is_named marks) (IsHeader text arguments true)) start new
          (λ q h. (h.0, h.1, for_quoted (is_place marks) (is_named marks) Quoted (IsHeader text arguments true) search.directories h.0 q (λ rest. (are_quoted rest).0) h.2))
          (λ q h. (h.0, h.1, for_quoted (is_place marks) (is_named marks) (IsHeader text arguments true) Quoted search.directories h.0 q (λ rest. (are_quoted rest).1) h.2)) by_marks
