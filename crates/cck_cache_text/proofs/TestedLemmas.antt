-- The paths that are added for tests for headers.
use Rattle.std.proofs.Common.{◌≡◌, ℕ, ◌⊎◌, inl, inr, true, false, List, [], length, get_or, sym, subst, ◌∙◌, arith}
use Rattle.std.specs.BTreeSet.{BTreeSet}
use Rattle.std.specs.Global.{Vec}
use Rattle.std.proofs.lemmas.List.{get_or_default}
use Rattle.cck_cache_text.specs.Absent.{path_in}
use Rattle.cck_cache_text.specs.TestName.{TestFields}
use Rattle.cck_cache_text.specs.Sets.{Adds}
use Rattle.cck_cache_text.specs.TestedPaths.{IsBesideFile, IsEither, IsEitherInList, IsPathOfTest, IsPathOfTests, is_absolute}
use Rattle.cck_cache_text.proofs.SetLemmas.{Below, adds_as, adds_both}

-- what is added in the directory at a place of a list
abbrev pub InList : List (List ℕ) → List ℕ → ℕ → List ℕ → Type 0
InList directories name place path = IsEither (path_in (get_or directories place []) name) path

-- what is added for the test at a place
abbrev pub OfTest : List (List ℕ) → List ℕ → List TestFields → ℕ → List ℕ → Type 0
OfTest directories file tests place path = IsPathOfTest directories file (get_or tests place (record { name = []; is_quoted = false })) path

false_true : false ≡ true → ⊥
false_true e = cc

module _ (directories : List (List ℕ)) (file : List ℕ) (test : TestFields) (old new : BTreeSet (Vec ℕ)) where
  -- an absolute name
  pub paths_absolute : is_absolute test.name ≡ true → Adds (IsEither test.name) old new → Adds (IsPathOfTest directories file test) old new
  paths_absolute is adds = adds_as (IsEither test.name) (IsPathOfTest directories file test) old new (λ q e. inl (is, e)) from adds
    where
      from : (q : List ℕ) → IsPathOfTest directories file test q → IsEither test.name q
      from q (inl e) = e.1
      from q (inr e) = absurd (false_true (sym e.0 ∙ is))

  -- another name
  pub paths_relative : (middle : BTreeSet (Vec ℕ)) → is_absolute test.name ≡ false → Adds (IsBesideFile file test) old middle → Adds (IsEitherInList directories test.name) middle new → Adds (IsPathOfTest directories file test) old new
  paths_relative middle is first second =
      adds_as (λ q. IsBesideFile file test q ⊎ IsEitherInList directories test.name q) (IsPathOfTest directories file test) old new (λ q e. inr (is, e)) from (adds_both (IsBesideFile file test) (IsEitherInList directories test.name) old middle new first second)
    where
      from : (q : List ℕ) → IsPathOfTest directories file test q → IsBesideFile file test q ⊎ IsEitherInList directories test.name q
      from q (inl e) = absurd (false_true (sym is ∙ e.0))
      from q (inr e) = e.1

-- the paths of each test
pub paths_of_tests : (directories : List (List ℕ)) (file : List ℕ) (tests : List TestFields) (n : ℕ) (old new : BTreeSet (Vec ℕ)) → n ≡ length tests → Adds (Below (OfTest directories file tests) n) old new → Adds (IsPathOfTests directories file tests) old new
paths_of_tests directories file tests n old new end adds =
    adds_as (Below (OfTest directories file tests) n) (IsPathOfTests directories file tests) old new to from adds
  where
    none : TestFields
    none = record { name = []; is_quoted = false }

    to : (q : List ℕ) → Below (OfTest directories file tests) n q → IsPathOfTests directories file tests q
    to q (k, lt, path) = (get_or tests k none, (k, omega (arith, lt, end), get_or_default tests k (get_or tests k none) none (omega (arith, lt, end))), path)

    from : (q : List ℕ) → IsPathOfTests directories file tests q → Below (OfTest directories file tests) n q
    from q (test, (k, lt, is), path) = (k, omega (arith, lt, end), subst (λ (t : TestFields). IsPathOfTest directories file t q) (sym is ∙ get_or_default tests k test none lt) path)
