-- the tests of paths that must hold for a recorded key
use Rattle.std.proofs.Common.{◌≡◌, ◌∙◌, ◌<◌, ◌≤◌, ◌+◌, ◌⊎◌, ℕ, Bool, true, false, List, [], ◌∷◌, ◌++◌, Contains, IsTrue, get_or, length, map, take, sym, ap, ap₂, append_assoc, subst, arith}
use Rattle.std.specs.BTreeSet.{BTreeSet}
use Rattle.std.specs.Global.{Vec}
use Rattle.std.proofs.lemmas.List.{get_or_default, length-map, map-append, take_all, take_more}
use Rattle.cck_cache_files.specs.Absence.{AreLeft, IsLinked}
use Rattle.cck_cache_text.specs.Left.{IsLeft}
use Rattle.cck_cache_text.specs.Names.{is_named}
use Rattle.cck_cache_text.specs.SearchList.{SearchFields}
use Rattle.cck_cache_rules.specs.PathTest.{Test, test_of, tests_of}
use Rattle.cck_cache_text.specs.Sets.{IsSetOf, has_key}
use Rattle.cck_cache_rules.specs.declared.path_test.PathTest.{PathTest}
use Rattle.cck_cache_text.proofs.SetLemmas.{has_key_at, key_at}
use Rattle.cck_include.specs.Marks.{Mark}
use Rattle.cck_path.specs.Bytes.{Bytes, lists_of}

-- ---- the tests of paths

-- the test of one more path
pub one_tested : (make : Bytes → Test) (first : List Test) (before after : List PathTest) (test : PathTest) (paths : List Bytes) (i : ℕ) → i < length paths → test_of test ≡ make (get_or paths i []) → after ≡ before ++ test ∷ []
    → tests_of before ≡ first ++ map make (take i paths) → tests_of after ≡ first ++ map make (take (i + 1) paths)
one_tested make first before after test paths i within is pushed so_far =
    ap tests_of pushed
    ∙ (map-append test_of before (test ∷ [])
    ∙ (ap₂ (λ (xs : List Test) (x : Test). xs ++ x ∷ []) so_far is
    ∙ (append_assoc first (map make (take i paths)) (make (get_or paths i []) ∷ [])
    ∙ ap (λ (xs : List Test). first ++ xs) (sym (map-append make (take i paths) (get_or paths i [] ∷ [])) ∙ ap (λ (ps : List Bytes). map make ps) (sym (take_more paths i [] within))))))

-- the tests of all paths
pub all_tested : (make : Bytes → Test) (first : List Test) (tests : List PathTest) (paths : List Bytes) (n : ℕ) → length paths ≤ n → tests_of tests ≡ first ++ map make (take n paths) → tests_of tests ≡ first ++ map make paths
all_tested make first tests paths n all so_far = so_far ∙ ap (λ (ps : List Bytes). first ++ map make ps) (take_all n paths all)

-- tests after others
pub tests_joined : (all first rest : List PathTest) (before : List Test) → all ≡ first ++ rest → tests_of first ≡ before → tests_of all ≡ before ++ tests_of rest
tests_joined all first rest before is so_far = ap tests_of is ∙ (map-append test_of first rest ∙ ap (λ (tests : List Test). tests ++ tests_of rest) so_far)

-- the names to which links are tested, by a compiler that renames no header
pub all_linked : (renames : Bool) (search : SearchFields) (marks : List Mark) (text name : Bytes) → renames ≡ false
    → (IsLinked renames search marks text name → IsTrue (is_named marks name) ⊎ (Contains search.directories name ⊎ Contains search.duplicates name))
    × (IsTrue (is_named marks name) ⊎ (Contains search.directories name ⊎ Contains search.duplicates name) → IsLinked renames search marks text name)
all_linked true search marks text name e = absurd (true_false e)
  where
    true_false : true ≡ false → ⊥
    true_false e = cc
all_linked false search marks text name e = (λ is. is, λ is. is)

-- ---- the directories that names leave

-- the keys of a set that has exactly these directories
pub left_keys : (directory : Bytes) (marks : List Mark) (left : BTreeSet (Vec ℕ)) → IsSetOf (IsLeft directory marks) left → AreLeft directory marks (lists_of left.keys)
left_keys directory marks left is front = (
  λ at.
      let within : at.0 < length left.keys = omega (arith, at.1, length-map left.keys (λ k. k.items)) in
      (is front).0 (subst (λ (q : Bytes). IsTrue (has_key left q)) (get_or_default (lists_of left.keys) at.0 [] front at.1 ∙ at.2) (has_key_at left.keys at.0 within)),
  λ leaves.
      let at = key_at left.keys front ((is front).1 leaves) in
      let within : at.0 < length (lists_of left.keys) = omega (arith, at.1, length-map left.keys (λ k. k.items)) in
      (at.0, within, get_or_default (lists_of left.keys) at.0 front [] within ∙ at.2),
)
