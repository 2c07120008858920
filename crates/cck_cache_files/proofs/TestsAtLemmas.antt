-- Tests of what is at paths.
use Rattle.std.proofs.Common.{◌≡◌, ◌∙◌, ◌+◌, inl, inr, ℕ, List, [], ◌∷◌, ◌++◌, Contains, get_or, map, refl, sym, ap, subst, arith}
use Rattle.std.specs.Global.{Vec}
use Rattle.std.proofs.lemmas.List.{map-append}
use Rattle.std.proofs.lemmas.List.Elements.{Contains-append_left, Contains-push, Contains-push_cases}
use Rattle.cck_cache_files.specs.TestsAt.{AreTestsAt, GainsTest, IsTestAt}
use Rattle.cck_cache_files.proofs.SetLemmas.{IsAmong, more_names, next_name}
use Rattle.cck_cache_rules.specs.PathTest.{Test, Absent, File, Directory, Searched, Plain, Real, test_of, tests_of}
use Rattle.cck_cache_rules.specs.declared.path_test.PathTest.{PathTest}
use Rattle.cck_cache_files.specs.PathStates.{KeepsStates}
use Rattle.cck_cache_files.specs.declared.path_states.PathState.TheVariants as state
use Rattle.cck_cache_files.specs.declared.path_states.PathStates.{PathStates}
use Rattle.cck_cache_files.proofs.StateLemmas.{first_other_kept}
use Rattle.cck_path.specs.Bytes.{Bytes}
use Rattle.cck_path.specs.Text.{join_path}

-- a list gains a test that is pushed
pub gains_pushed : (before after : List PathTest) (test : PathTest) → after ≡ before ++ test ∷ [] → GainsTest (tests_of before) (test_of test) (tests_of after)
gains_pushed before after test pushed =
    let is : tests_of after ≡ tests_of before ++ test_of test ∷ [] = ap tests_of pushed ∙ map-append test_of before (test ∷ []) in
    record {
      kept = λ t at. subst (λ (ts : List Test). Contains ts t) (sym is) (Contains-append_left (tests_of before) (test_of test ∷ []) t at);
      gained = subst (λ (ts : List Test). Contains ts (test_of test)) (sym is) (Contains-push (tests_of before) (test_of test));
      only = λ t at. elim (Contains-push_cases (tests_of before) (test_of test) t (subst (λ (ts : List Test). Contains ts t) is at)) [
        | inl a ↦ inl a
        | inr same ↦ inr (sym same)
      ];
    }

-- it has gained a test that it has
pub gains_known : (tests : List Test) (test : Test) → Contains tests test → GainsTest tests test tests
gains_known tests test has = record { kept = λ t at. at; gained = has; only = λ t at. inl at }

test_kept : (old new : PathStates) (path : Bytes) (test : Test) → KeepsStates old new → IsTestAt old path test → IsTestAt new path test
test_kept old new path (Absent front) keeps is = first_other_kept old new path front state.Absent keeps is
test_kept old new path (File front) keeps is = (first_other_kept old new path front state.File keeps is.0, is.1)
test_kept old new path (Directory directory) keeps is = absurd is
test_kept old new path (Searched directory place) keeps is = absurd is
test_kept old new path (Plain file) keeps is = absurd is
test_kept old new path (Real file real) keeps is = absurd is

pub no_tests : (states : PathStates) (directory : Bytes) (keys : List (Vec ℕ)) → AreTestsAt states directory (IsAmong keys 0) []
no_tests states directory keys = record {
  each = λ name among. absurd (omega (arith, among.1));
  only = λ test at. absurd (omega (arith, at.1));
}

-- the test for the next name
pub next_test : (old new : PathStates) (directory : Bytes) (keys : List (Vec ℕ)) (n : ℕ) → KeepsStates old new → (path : Bytes) (test : Test) (before after : List Test) → path ≡ join_path directory (get_or (map (λ k. k.items) keys) n [])
    → IsTestAt new path test → GainsTest before test after → AreTestsAt old directory (IsAmong keys n) before → AreTestsAt new directory (IsAmong keys (n + 1)) after
next_test old new directory keys n keeps path test before after is here gains for = record {
  each = λ name among. elim (next_name keys n name among) [
    | inl first ↦ (let it = for.each name first in (it.0, gains.kept it.0 it.1, test_kept old new (join_path directory name) it.0 keeps it.2))
    | inr at ↦ (test, gains.gained, subst (λ (p : Bytes). IsTestAt new p test) (is ∙ ap (λ (m : Bytes). join_path directory m) at) here)
  ];
  only = λ t among. elim (gains.only t among) [
    | inl first ↦ (let at = for.only t first in (at.0, more_names keys n at.0 at.1, test_kept old new (join_path directory at.0) t keeps at.2))
    | inr same ↦ (
      get_or (map (λ k. k.items) keys) n [],
      (n, omega arith, refl),
      subst (λ (t' : Test). IsTestAt new (join_path directory (get_or (map (λ (k : Vec ℕ). k.items) keys) n [])) t') (sym same) (subst (λ (p : Bytes). IsTestAt new p test) is here),
    )
  ];
}

-- tests for names that are others of the same
pub tests_for_same : (states : PathStates) (directory : Bytes) (P Q : Bytes → Type 0) (tests : List Test) → ((name : Bytes) → P name → Q name) → ((name : Bytes) → Q name → P name) → AreTestsAt states directory P tests → AreTestsAt states directory Q tests
tests_for_same states directory P Q tests there back for = record {
  each = λ name is. for.each name (back name is);
  only = λ test among. let at = for.only test among in (at.0, there at.0 at.1, at.2);
}
