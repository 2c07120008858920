-- What sources ask for, name by name.
use Rattle.std.proofs.Common.{◌≡◌, ℕ, ◌+◌, ◌<◌, inl, inr, true, false, List, [], Some, None, Result, Ok, Err, IsTrue, length, map, get_or, sym, ap, ◌∙◌, arith, subst}
use Rattle.std.specs.BTreeSet.{BTreeSet}
use Rattle.std.specs.Global.{Vec}
use Rattle.std.proofs.lemmas.Bool.{cases_lt}
use Rattle.std.specs.List.{list_any}
use Rattle.std.specs.Str.{bytes_eq}
use Rattle.cck_cache_text.specs.TestName.{TestFields}
use Rattle.cck_cache_text.specs.Sets.{Adds, IsSetOf, has_key}
use Rattle.cck_cache_text.proofs.SetLemmas.{Below, adds_as, adds_more, adds_nothing, has_key_at, key_at}
use Rattle.cck_cache_text.specs.TestedPaths.{IsPathOfTests}
use Rattle.cck_cache_files.specs.declared.sources.Asked.{Asked}
use Rattle.cck_cache_files.specs.declared.sources.Asked.TheVariants.{Paths, Unknown, Time}
use Rattle.cck_digest.specs.declared.error.FileError.{FileError}
use Rattle.cck_cache_files.specs.Sources.{AreAsked, AreSourceTests, AsksFor, IsContents, IsPlainSource, IsSourceOf}
use Rattle.cck_files.specs.FileMap.{FileMap}
use Rattle.cck_path.specs.Bytes.{Bytes}

-- the source of the name at a place asks for this path
abbrev pub AsksAt : FileMap → Bytes → List Bytes → List Bytes → ℕ → Bytes → Type 0
AsksAt files directory directories names k path = (contents : Bytes) × IsContents files directory (get_or names k []) (Some contents) × AsksFor directories (get_or names k []) contents path

-- of the sources of the first names it is known what they ask for
abbrev pub PlainBelow : FileMap → Bytes → List Bytes → ℕ → Type 0
PlainBelow files directory names n = (k : ℕ) (contents : Bytes) → k < n → IsContents files directory (get_or names k []) (Some contents) → IsPlainSource contents

pub plain_more : (files : FileMap) (directory : Bytes) (names : List Bytes) (n : ℕ) → ((contents : Bytes) → IsContents files directory (get_or names n []) (Some contents) → IsPlainSource contents) → PlainBelow files directory names n → PlainBelow files directory names (n + 1)
plain_more files directory names n here before k contents lt is =
    elim (cases_lt k n) [
      | inl below ↦ before k contents below is
      | inr above ↦ (let same : k ≡ n = omega arith in here contents (subst (λ (i : ℕ). IsContents files directory (get_or names i []) (Some contents)) same is))
    ]

-- a source asks for the paths of its tests
pub asks_by : (directories : List Bytes) (name contents : Bytes) (tests : List TestFields) (old new : BTreeSet (Vec ℕ)) → AreSourceTests contents (Some tests) → Adds (IsPathOfTests directories name tests) old new → Adds (AsksFor directories name contents) old new
asks_by directories name contents tests old new are = adds_as (IsPathOfTests directories name tests) (AsksFor directories name contents) old new
    (λ path at. (tests, are, at))
    (λ path asks. (asks.2.0, (are.1.1 asks.2.0).1 ((asks.1.1.1 asks.2.0).0 asks.2.1), asks.2.2))

-- the sources of all names
pub all_asked : (files : FileMap) (directory : Bytes) (directories : List Bytes) (names : BTreeSet (Vec ℕ)) (n : ℕ) (old new : BTreeSet (Vec ℕ)) → n ≡ length names.keys → old.keys ≡ []
    → PlainBelow files directory (map (λ k. k.items) names.keys) n → Adds (Below (AsksAt files directory directories (map (λ k. k.items) names.keys)) n) old new
    → ((name contents : Bytes) → IsSourceOf files directory (λ name. IsTrue (has_key names name)) name contents → IsPlainSource contents)
    × IsSetOf (λ path. (name : Bytes) × (contents : Bytes) × IsSourceOf files directory (λ name. IsTrue (has_key names name)) name contents × AsksFor directories name contents path) new
all_asked files directory directories names n old new end none plain adds = (
  λ name contents source. let at = key_at names.keys name source.0 in
      plain at.0 contents (omega (arith, end, at.1)) (subst (λ (m : Bytes). IsContents files directory m (Some contents)) (sym at.2) source.1),
  λ path. (
    λ h. elim ((adds path).0 h) [
      | inl below ↦ (get_or keys below.0 [], below.2.0, (has_key_at names.keys below.0 (omega (arith, end, below.1)), below.2.1), below.2.2)
      | inr before ↦ absurd (nothing (ap (list_any (λ k. bytes_eq path k.items)) (sym none) ∙ before))
    ],
    λ asked. let at = key_at names.keys asked.0 asked.2.0 in
        (adds path).1 (inl (at.0, omega (arith, end, at.1), (asked.1, subst (λ (m : Bytes). IsContents files directory m (Some asked.1)) (sym at.2) asked.2.1, subst (λ (m : Bytes). AsksFor directories m asked.1 path) (sym at.2) asked.3))),
  ),
)
  where
    keys : List Bytes
    keys = map (λ k. k.items) names.keys

    nothing : false ≡ true → ⊥
    nothing e = cc

-- nothing more at a place whose name has no regular file
pub asks_none : (files : FileMap) (directory : Bytes) (directories names : List Bytes) (n : ℕ) (old new : BTreeSet (Vec ℕ)) → IsContents files directory (get_or names n []) None → Adds (Below (AsksAt files directory directories names) n) old new → Adds (Below (AsksAt files directory directories names) (n + 1)) old new
asks_none files directory directories names n old new none before =
    adds_more (AsksAt files directory directories names) n old new new before (adds_nothing (AsksAt files directory directories names n) new (λ path asks. clash (sym none.1 ∙ asks.1)))
  where
    clash : {E : FileError} {contents : Bytes} → Err E ≡ Ok contents → ⊥
    clash e = cc

pub plain_none : (files : FileMap) (directory : Bytes) (names : List Bytes) (n : ℕ) → IsContents files directory (get_or names n []) None → PlainBelow files directory names n → PlainBelow files directory names (n + 1)
plain_none files directory names n none before = plain_more files directory names n (λ contents is. absurd (clash (sym none.1 ∙ is))) before
  where
    clash : {E : FileError} {contents : Bytes} → Err E ≡ Ok contents → ⊥
    clash e = cc

-- the paths of the source at a place
pub asks_here : (files : FileMap) (directory : Bytes) (directories names : List Bytes) (n : ℕ) (contents : Bytes) (old middle new : BTreeSet (Vec ℕ)) → IsContents files directory (get_or names n []) (Some contents) → Adds (AsksFor directories (get_or names n []) contents) middle new
    → Adds (Below (AsksAt files directory directories names) n) old middle → Adds (Below (AsksAt files directory directories names) (n + 1)) old new
asks_here files directory directories names n contents old middle new is here before =
    adds_more (AsksAt files directory directories names) n old middle new before
    (adds_as (AsksFor directories (get_or names n []) contents) (AsksAt files directory directories names n) middle new (λ path asks. (contents, is, asks))
    (λ path asks. subst (λ (b : Bytes). AsksFor directories (get_or names n []) b path) (one asks.0 contents asks.1 is) asks.2) here)
  where
    one : {x : Result Bytes FileError} (a b : Bytes) → x ≡ Ok a → x ≡ Ok b → a ≡ b
    one a b first second = cc

pub plain_here : (files : FileMap) (directory : Bytes) (names : List Bytes) (n : ℕ) (contents : Bytes) → IsContents files directory (get_or names n []) (Some contents) → IsPlainSource contents → PlainBelow files directory names n → PlainBelow files directory names (n + 1)
plain_here files directory names n contents is plain before =
    plain_more files directory names n (λ other other_is. subst IsPlainSource (one contents other is other_is) plain) before
  where
    one : {x : Result Bytes FileError} (a b : Bytes) → x ≡ Ok a → x ≡ Ok b → a ≡ b
    one a b first second = cc

-- what the sources of names ask for, by other words for the names
pub asked_same : (files : FileMap) (directory : Bytes) (P Q : Bytes → Type 0) (directories : List Bytes) (asked : Asked) → ((name : Bytes) → P name → Q name) → ((name : Bytes) → Q name → P name) → AreAsked files directory P directories asked → AreAsked files directory Q directories asked
asked_same files directory P Q directories (Paths paths) there back are = (
  λ name contents source. are.0 name contents (back name source.0, source.1),
  λ path. (
    λ h. let it = (are.1 path).0 h in (it.0, it.1, (there it.0 it.2.0, it.2.1), it.3),
    λ asked. (are.1 path).1 (asked.0, asked.1, (back asked.0 asked.2.0, asked.2.1), asked.3),
  ),
)
asked_same files directory P Q directories Unknown there back are = (are.0, are.1, (there are.0 are.2.0, are.2.1), are.3)
asked_same files directory P Q directories Time there back are = (are.0, are.1, (there are.0 are.2.0, are.2.1), are.3)
