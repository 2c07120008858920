-- The equality test decides whether two tests of paths are the same.
use Rattle.std.proofs.Common.{◌≡◌, ℕ, Bool, List, [], ◌∷◌, map, refl, ap}
use Rattle.std.proofs.lemmas.Bool.Decides.{Decides-and, Decides-eqb, Decides-like}
use Rattle.std.specs.Cmp.Lexicographic.{bytes_decides, pointwise}
use Rattle.std.specs.Prelude.{Decides}
use Rattle.cck_digest.proofs.EqualityLemmas.{apart}
use Rattle.cck_cache_rules.specs.PathTest as test
use Rattle.cck_cache_rules.specs.PathTest.{Test, test_of, tests_of}
use Rattle.cck_cache_rules.specs.contracts.path_test.PathTestPartialEq.TheImpl as same_test
use Rattle.cck_cache_rules.specs.declared.path_test.PathTest.{PathTest}
use Rattle.cck_cache_rules.specs.declared.path_test.PathTest.TheVariants.{Absent, File, Directory, Searched, Plain, Real}

abbrev number : Test → ℕ
number (test.Absent path) = 0
number (test.File path) = 1
number (test.Directory path) = 2
number (test.Searched path place) = 3
number (test.Plain path) = 4
number (test.Real path real) = 5

pub test_decides : (a b : PathTest) → Decides (same_test.ghosts.eq a b) (test_of a ≡ test_of b)
test_decides (Absent a) (Absent b) = Decides-like _ (λ e. ap test.Absent e) (λ e. cc) (bytes_decides a.items b.items)
test_decides (File a) (File b) = Decides-like _ (λ e. ap test.File e) (λ e. cc) (bytes_decides a.items b.items)
test_decides (Directory a) (Directory b) = Decides-like _ (λ e. ap test.Directory e) (λ e. cc) (bytes_decides a.items b.items)
test_decides (Searched a m) (Searched b n) = Decides-like _ (λ h. λ i. test.Searched (h.0 i) (h.1 i)) (λ e. (cc, cc)) (Decides-and _ _ (bytes_decides a.items b.items) (Decides-eqb m n))
test_decides (Plain a) (Plain b) = Decides-like _ (λ e. ap test.Plain e) (λ e. cc) (bytes_decides a.items b.items)
test_decides (Real a m) (Real b n) = Decides-like _ (λ h. λ i. test.Real (h.0 i) (h.1 i)) (λ e. (cc, cc)) (Decides-and _ _ (bytes_decides a.items b.items) (bytes_decides m.items n.items))
test_decides a b = apart number (test_of a) (test_of b) refl refl

module _ {X Y : Type 0} (E : X → X → Bool) (f : X → Y) (each : (a b : X) → Decides (E a b) (f a ≡ f b)) where
  list_of_decides : (a b : List X) → Decides (pointwise E a b) (map f a ≡ map f b)
  list_of_decides [] [] = (λ _. refl, λ _. refl)
  list_of_decides [] (y ∷ ys) = (λ e. absurd cc, λ e. absurd cc)
  list_of_decides (x ∷ xs) [] = (λ e. absurd cc, λ e. absurd cc)
  list_of_decides (x ∷ xs) (y ∷ ys) = Decides-like _ (λ h. λ i. h.0 i ∷ h.1 i) (λ e. (cc, cc)) (Decides-and _ _ (each x y) (list_of_decides xs ys))

pub tests_decide : (a b : List PathTest) → Decides (pointwise same_test.ghosts.eq a b) (tests_of a ≡ tests_of b)
tests_decide = list_of_decides same_test.ghosts.eq test_of test_decides
