-- Tests without the base directory.
use Rattle.std.proofs.Common.{◌≡◌, ℕ, List, [], ◌++◌, ◌⊎◌, inl, inr, Bool, true, false, cond, Some, codes, refl, sym, ap, ◌∙◌}
use Rattle.std.proofs.lemmas.List.{append_cancel_left}
use Rattle.cck_cache_rules.specs.Argument.{Begins}
use Rattle.cck_cache_rules.specs.ObjectName.{WithoutBaseTellsTests, after_base, is_inside, real_after, without_base}
use Rattle.cck_cache_rules.specs.PathTest.{Test, Absent, File, Directory, Searched, Plain, Real, test_path, test_real, with_path}
use Rattle.cck_cache_rules.proofs.ObjectNameLemmas.{of_inside}
use Rattle.cck_cache_rules.proofs.TestLemmas.{tests_differ}

-- another path in a test
path_of : (t : Test) (path real : List ℕ) → test_path (with_path t path real) ≡ path
path_of (Absent p) path real = refl
path_of (File p) path real = refl
path_of (Directory p) path real = refl
path_of (Searched p n) path real = refl
path_of (Plain p) path real = refl
path_of (Real p r) path real = refl

-- a real path in a test, or a test that has none
real_of : (t : Test) (path real : List ℕ) → (test_real (with_path t path real) ≡ real) ⊎ ((test_real (with_path t path real) ≡ []) × (test_real t ≡ []))
real_of (Absent p) path real = inr (refl, refl)
real_of (File p) path real = inr (refl, refl)
real_of (Directory p) path real = inr (refl, refl)
real_of (Searched p n) path real = inr (refl, refl)
real_of (Plain p) path real = inr (refl, refl)
real_of (Real p r) path real = inl refl

twice : (t : Test) (path real other leads : List ℕ) → with_path (with_path t path real) other leads ≡ with_path t other leads
twice (Absent p) path real other leads = refl
twice (File p) path real other leads = refl
twice (Directory p) path real other leads = refl
twice (Searched p n) path real other leads = refl
twice (Plain p) path real other leads = refl
twice (Real p r) path real other leads = refl

as_it_is : (t : Test) → with_path t (test_path t) (test_real t) ≡ t
as_it_is (Absent p) = refl
as_it_is (File p) = refl
as_it_is (Directory p) = refl
as_it_is (Searched p n) = refl
as_it_is (Plain p) = refl
as_it_is (Real p r) = refl

-- paths inside one base directory
same_paths : (base p q : List ℕ) → is_inside (Some base) p ≡ true → is_inside (Some base) q ≡ true → after_base (Some base) p ≡ after_base (Some base) q → p ≡ q
same_paths base p q inside within same = of_inside base p inside ∙ (ap (λ (r : List ℕ). base ++ r) same ∙ sym (of_inside base q within))

-- real paths by what is written of them
module _ (base p q : List ℕ) (no_dot : ¬ Begins p (codes ".")) (no_point : ¬ Begins q (codes ".")) where
  reals : (i j : Bool) → is_inside (Some base) p ≡ i → is_inside (Some base) q ≡ j
      → cond i (codes "." ++ after_base (Some base) p) p ≡ cond j (codes "." ++ after_base (Some base) q) q → p ≡ q
  reals true true inside within same =
      same_paths base p q inside within (append_cancel_left (codes ".") (after_base (Some base) p) (after_base (Some base) q) same)
  reals true false inside within same = absurd (no_point (after_base (Some base) p, sym same))
  reals false true inside within same = absurd (no_dot (after_base (Some base) q, same))
  reals false false inside within same = same

  same_reals : real_after (Some base) p ≡ real_after (Some base) q → p ≡ q
  same_reals same = reals (is_inside (Some base) p) (is_inside (Some base) q) refl refl same

-- a real path of which nothing is written
no_real : (base p : List ℕ) → real_after (Some base) p ≡ [] → p ≡ []
no_real base p none = nothing (is_inside (Some base) p) none
  where
    nothing : (i : Bool) → cond i (codes "." ++ after_base (Some base) p) p ≡ [] → p ≡ []
    nothing true e = absurd cc
    nothing false e = e

pub without_base_tells_tests : WithoutBaseTellsTests
without_base_tells_tests base a b inside within no_dot no_point same =
    let pa = after_base (Some base) (test_path a) in
    let pb = after_base (Some base) (test_path b) in
    let ra = real_after (Some base) (test_real a) in
    let rb = real_after (Some base) (test_real b) in
    let alike : with_path a pa ra ≡ with_path b pb rb = tests_differ (without_base (Some base) a) (without_base (Some base) b) same in
    let paths : test_path a ≡ test_path b =
    same_paths base (test_path a) (test_path b) inside within (sym (path_of a pa ra) ∙ (ap test_path alike ∙ path_of b pb rb))
    in
    let lead : test_real (with_path a pa ra) ≡ test_real (with_path b pb rb) = ap test_real alike in
    let reals : test_real a ≡ test_real b =
    elim (real_of a pa ra) [
      | inl of_a ↦ elim (real_of b pb rb) [
        | inl of_b ↦ same_reals base (test_real a) (test_real b) no_dot no_point (sym of_a ∙ (lead ∙ of_b))
        | inr of_b ↦ no_real base (test_real a) (sym of_a ∙ (lead ∙ of_b.0)) ∙ sym of_b.1
      ]
      | inr of_a ↦ elim (real_of b pb rb) [
        | inl of_b ↦ of_a.1 ∙ sym (no_real base (test_real b) (sym of_b ∙ (sym lead ∙ of_a.0)))
        | inr of_b ↦ of_a.1 ∙ sym of_b.1
      ]
    ]
    in
    sym (as_it_is a)
    ∙ (sym (twice a pa ra (test_path a) (test_real a))
    ∙ (ap (λ (t : Test). with_path t (test_path a) (test_real a)) alike
    ∙ (twice b pb rb (test_path a) (test_real a)
    ∙ ((λ i. with_path b (paths i) (reals i)) ∙ as_it_is b))))
