-- the name under which a store keeps an object
use Rattle.std.specs.Prelude.{◌≡◌, ◌↔◌, ℕ, List, ◌++◌, Bool, cond, false, true, not, Option, Some, None, codes, drop, filter, length, map, nat_eq}
use Rattle.std.specs.List.{starts_with}
use Rattle.cck_digest.specs.Digest.{digest_text}
use Rattle.cck_digest.specs.Frames.{frame, framed_list}
use Rattle.cck_cache_rules.specs.Argument.{Begins}
use Rattle.cck_cache_rules.specs.FrontCoding.{framed_front_coded}
use Rattle.cck_include.specs.Include.{Include}
use Rattle.cck_cache_rules.specs.PathTest.{Test, test_bytes, test_path, test_real, with_path}

-- whether a path is that of the base directory, or goes on after it and a slash; without a base directory none does
abbrev pub is_inside : Option (List ℕ) → List ℕ → Bool
is_inside None path = false
is_inside (Some base) path = starts_with nat_eq (path ++ codes "/") (base ++ codes "/")

-- what follows the base directory in a path inside
abbrev pub after_base : Option (List ℕ) → List ℕ → List ℕ
after_base None path = path
after_base (Some base) path = drop (length base) path

-- a real path, with a dot in the place of the base directory if it is inside; a real path begins with a slash
abbrev pub real_after : Option (List ℕ) → List ℕ → List ℕ
real_after base real = cond (is_inside base real) (codes "." ++ after_base base real) real

-- the test of a path inside without the base directory, also in the path that it leads to
abbrev pub without_base : Option (List ℕ) → Test → Test
without_base base t = with_path t (after_base base (test_path t)) (real_after base (test_real t))

-- the recorded digests of the files that are not inside the base directory, and of those that are
abbrev pub digests_outside : Option (List ℕ) → List Include → List (List ℕ)
digests_outside base includes = map (λ i. i.digest) (filter (λ i. not (is_inside base i.path)) includes)

abbrev pub digests_inside : Option (List ℕ) → List Include → List (List ℕ)
digests_inside base includes = map (λ i. i.digest) (filter (λ i. is_inside base i.path) includes)

-- the bytes of the tests of paths that are not inside the base directory, and of those that are, without it
abbrev pub tests_outside : Option (List ℕ) → List Test → List (List ℕ)
tests_outside base tests = map test_bytes (filter (λ t. not (is_inside base (test_path t))) tests)

abbrev pub tests_inside : Option (List ℕ) → List Test → List (List ℕ)
tests_inside base tests = map (λ t. test_bytes (without_base base t)) (filter (λ t. is_inside base (test_path t)) tests)

-- what decides an object beside the compiler: its key, and the recorded digests and the tests of two groups each
pub record ObjectParts : Type 0 where
  pub key : List ℕ
  pub input : List ℕ
  pub outside : List (List ℕ)
  pub inside : List (List ℕ)
  pub tests_outside : List (List ℕ)
  pub tests_inside : List (List ℕ)

-- the parts, each with its length or its count before it; the tests of each group by front coding
abbrev pub object_material : ObjectParts → List ℕ
object_material p =
    frame p.key ++ frame p.input ++ framed_list frame p.outside ++ framed_list frame p.inside ++ framed_front_coded p.tests_outside
    ++ framed_front_coded p.tests_inside

-- the parts of an object with this key, for an input, the files that a result included and tests of paths
abbrev pub object_parts : List ℕ → List ℕ → Option (List ℕ) → List Include → List Test → ObjectParts
object_parts key input base includes tests = record {
  key = key;
  input = input;
  outside = digests_outside base includes;
  inside = digests_inside base includes;
  tests_outside = tests_outside base tests;
  tests_inside = tests_inside base tests;
}

-- the name of the object
unfoldable pub object_name : (List ℕ → List ℕ) → List ℕ → List ℕ → Option (List ℕ) → List Include → List Test → List ℕ
object_name hash key input base includes tests = digest_text hash (object_material (object_parts key input base includes tests))

-- two materials are equal exactly if all their parts are
abbrev pub MaterialTellsObject : Type 0
MaterialTellsObject = (p q : ObjectParts) → object_material p ≡ object_material q ↔ (p ≡ q)

-- tests of paths inside one base directory have the same bytes without it only where they are the same, if no real path begins with a dot
abbrev pub WithoutBaseTellsTests : Type 0
WithoutBaseTellsTests = (base : List ℕ) (a b : Test) → is_inside (Some base) (test_path a) ≡ true → is_inside (Some base) (test_path b) ≡ true
    → ¬ Begins (test_real a) (codes ".") → ¬ Begins (test_real b) (codes ".")
    → test_bytes (without_base (Some base) a) ≡ test_bytes (without_base (Some base) b) → a ≡ b
