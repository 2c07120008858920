-- Tests of the links on the way to files.
use Rattle.std.proofs.Common.{◌≡◌, ◌∙◌, ◌⊎◌, ◌<◌, ◌≤◌, ◌+◌, ℕ, inl, inr, List, [], ◌∷◌, ◌++◌, Contains, get_or, length, take, refl, sym, ap, subst, arith}
use Rattle.std.proofs.lemmas.List.{get_or-map, length-map, map-append, take_all, take_more}
use Rattle.std.proofs.lemmas.List.Elements.{Contains-append_left, Contains-push, Contains-push_cases}
use Rattle.cck_cache_rules.specs.PathTest.{Test, Absent, Plain, Real, test_of, test_path, tests_of}
use Rattle.cck_cache_rules.specs.declared.path_test.PathTest.{PathTest}
use Rattle.cck_cache_text.specs.Names.{directory_of}
use Rattle.cck_cache_files.specs.RealPaths.{AreAbsentLinks, ArePlaced, GainsLink, GainsPlace, GainsReal, HasReal, IsPlaced}
use Rattle.cck_cache_files.specs.declared.real_paths.LinkTests.{LinkTests}
use Rattle.cck_path.specs.Bytes.{Bytes}

-- a test after others
pub one_pushed : (old new : List PathTest) (test : PathTest) (is : Test) → test_of test ≡ is → new ≡ old ++ test ∷ [] → tests_of new ≡ tests_of old ++ is ∷ []
one_pushed old new test is same pushed = ap tests_of pushed ∙ (map-append test_of old (test ∷ []) ∙ ap (λ (t : Test). tests_of old ++ t ∷ []) same)

pub kept_by : (old new : List Test) (is : Test) → new ≡ old ++ is ∷ [] → (test : Test) → Contains old test → Contains new test
kept_by old new is pushed test at = subst (λ (l : List Test). Contains l test) (sym pushed) (Contains-append_left old (is ∷ []) test at)

pub gained_by : (old new : List Test) (is : Test) → new ≡ old ++ is ∷ [] → Contains new is
gained_by old new is pushed = subst (λ (l : List Test). Contains l is) (sym pushed) (Contains-push old is)

pub only_by : (old new : List Test) (is : Test) → new ≡ old ++ is ∷ [] → (test : Test) → Contains new test → Contains old test ⊎ (test ≡ is)
only_by old new is pushed test at =
    elim (Contains-push_cases old is test (subst (λ (l : List Test). Contains l test) pushed at)) [
      | inl before ↦ inl before
      | inr same ↦ inr (sym same)
    ]

pub real_gained : (old new : List Test) (path leads : Bytes) → new ≡ old ++ Real path leads ∷ [] → GainsReal old path new
real_gained old new path leads pushed = record {
  kept = kept_by old new (Real path leads) pushed;
  gained = (leads, gained_by old new (Real path leads) pushed);
  only = λ test at. elim (only_by old new (Real path leads) pushed test at) [
    | inl before ↦ inl before
    | inr same ↦ inr (leads, same)
  ];
}

pub real_known : (old : List Test) (path : Bytes) → HasReal old path → GainsReal old path old
real_known old path has = record { kept = λ test at. at; gained = has; only = λ test at. inl at }

-- a file that is no link, and its directory
pub file_placed : (old new : LinkTests) (path : Bytes) → tests_of new.plain.items ≡ tests_of old.plain.items ++ Plain path ∷ [] → GainsReal (tests_of old.real.items) (directory_of path) (tests_of new.real.items) → GainsPlace old path new
file_placed old new path pushed gains = record {
  kept_plain = kept_by (tests_of old.plain.items) (tests_of new.plain.items) (Plain path) pushed;
  kept_real = gains.kept;
  gained = inl (gained_by (tests_of old.plain.items) (tests_of new.plain.items) (Plain path) pushed, gains.gained);
  only_plain = only_by (tests_of old.plain.items) (tests_of new.plain.items) (Plain path) pushed;
  only_real = λ test at. elim (gains.only test at) [
    | inl before ↦ inl before
    | inr more ↦ inr (more.0, inr more.1)
  ];
}

-- another path
pub path_placed : (old new : LinkTests) (path : Bytes) → new.plain ≡ old.plain → GainsReal (tests_of old.real.items) path (tests_of new.real.items) → GainsPlace old path new
path_placed old new path same gains = record {
  kept_plain = λ test at. subst (λ l. Contains (tests_of l.items) test) (sym same) at;
  kept_real = gains.kept;
  gained = inr gains.gained;
  only_plain = λ test at. inl (subst (λ l. Contains (tests_of l.items) test) same at);
  only_real = λ test at. elim (gains.only test at) [
    | inl before ↦ inl before
    | inr more ↦ inr (more.0, inl more.1)
  ];
}

still_placed : (old new : LinkTests) (path other : Bytes) → GainsPlace old other new → IsPlaced old path → IsPlaced new path
still_placed old new path other gains (inl both) = inl (gains.kept_plain (Plain path) both.0, (both.1.0, gains.kept_real (Real (directory_of path) both.1.0) both.1.1))
still_placed old new path other gains (inr one) = inr (one.0, gains.kept_real (Real path one.0) one.1)

nothing_in : (tests : List Test) (test : Test) → tests ≡ [] → Contains tests test → ⊥
nothing_in tests test none at = omega (arith, at.1, ap (length {A = Test}) none)

-- one more path
pub more_placed : (P Q : Bytes → Type 0) (old new : LinkTests) (path : Bytes) → ((p : Bytes) → P p → Q p) → Q path → ((p : Bytes) → Q p → P p ⊎ (path ≡ p)) → GainsPlace old path new → ArePlaced P old → ArePlaced Q new
more_placed P Q old new path there here back gains are = record {
  each = λ p is. elim (back p is) [
    | inl before ↦ still_placed old new p path gains (are.each p before)
    | inr same ↦ subst (λ (q : Bytes). IsPlaced new q) same gains.gained
  ];
  only_plain = λ test at. elim (gains.only_plain test at) [
    | inl before ↦ (let from = are.only_plain test before in (from.0, there from.0 from.1, from.2))
    | inr same ↦ (path, here, same)
  ];
  only_real = λ test at. elim (gains.only_real test at) [
    | inl before ↦ (let from = are.only_real test before in (from.0, there from.0 from.1, from.2))
    | inr same ↦ (path, here, same)
  ];
}

-- other words for the same paths
pub placed_as : (P Q : Bytes → Type 0) (tests : LinkTests) → ((p : Bytes) → P p → Q p) → ((p : Bytes) → Q p → P p) → ArePlaced P tests → ArePlaced Q tests
placed_as P Q tests there back are = record {
  each = λ p is. are.each p (back p is);
  only_plain = λ test at. let from = are.only_plain test at in (from.0, there from.0 from.1, from.2);
  only_real = λ test at. let from = are.only_real test at in (from.0, there from.0 from.1, from.2);
}

-- no path
pub none_placed : (P : Bytes → Type 0) (tests : LinkTests) → ((p : Bytes) → P p → ⊥) → tests.plain.items ≡ [] → tests.real.items ≡ [] → ArePlaced P tests
none_placed P tests none no_plain no_real = record {
  each = λ p is. absurd (none p is);
  only_plain = λ test at. absurd (nothing_in (tests_of tests.plain.items) test (ap tests_of no_plain) at);
  only_real = λ test at. absurd (nothing_in (tests_of tests.real.items) test (ap tests_of no_real) at);
}

-- ---- the directories of absent paths

pub link_gained : (old new : List Test) (absent : Test) (path : Bytes) → absent ≡ Absent path → GainsReal old (directory_of path) new → GainsLink old absent new
link_gained old new absent path is gains = record {
  kept = gains.kept;
  gained = λ other same. subst (λ (p : Bytes). HasReal new (directory_of p)) (ap test_path (sym is ∙ same)) gains.gained;
  only = λ test at. elim (gains.only test at) [
    | inl before ↦ inl before
    | inr more ↦ inr (path, more.0, is, more.1)
  ];
}

pub no_link : (list : List Test) (other : Test) → ((path : Bytes) → other ≡ Absent path → ⊥) → GainsLink list other list
no_link list other none = record { kept = λ test at. at; gained = λ path is. absurd (none path is); only = λ test at. inl at }

-- no tests
pub none_linked : (links : List Test) → links ≡ [] → AreAbsentLinks [] links
none_linked links none = record {
  each = λ path at. absurd (nothing_in [] (Absent path) refl at);
  only = λ test at. absurd (nothing_in links test none at);
}

-- one more test
more_linked : (tests old new : List Test) (test : Test) → GainsLink old test new → AreAbsentLinks tests old → AreAbsentLinks (tests ++ test ∷ []) new
more_linked tests old new test gains are = record {
  each = λ path at. elim (Contains-push_cases tests test (Absent path) at) [
    | inl before ↦ (let has = are.each path before in (has.0, gains.kept (Real (directory_of path) has.0) has.1))
    | inr same ↦ gains.gained path same
  ];
  only = λ link at. elim (gains.only link at) [
    | inl before ↦ (let from = are.only link before in (from.0, from.1, Contains-append_left tests (test ∷ []) (Absent from.0) from.2, from.3))
    | inr more ↦ (more.0, more.1, subst (λ (t : Test). Contains (tests ++ test ∷ []) t) more.2 (Contains-push tests test), more.3)
  ];
}

pub next_linked : (tests : List PathTest) (i : ℕ) (test : PathTest) (old new : List Test) → i < length tests → test ≡ get_or tests i test → GainsLink old (test_of test) new
    → AreAbsentLinks (tests_of (take i tests)) old → AreAbsentLinks (tests_of (take (i + 1) tests)) new
next_linked tests i test old new within is gains are =
    let taken : tests_of (take (i + 1) tests) ≡ tests_of (take i tests) ++ test_of test ∷ [] =
    ap tests_of (take_more tests i test within) ∙ (map-append test_of (take i tests) (get_or tests i test ∷ []) ∙ ap (λ (t : PathTest). tests_of (take i tests) ++ test_of t ∷ []) (sym is))
    in
    subst (λ (ts : List Test). AreAbsentLinks ts new) (sym taken) (more_linked (tests_of (take i tests)) old new (test_of test) gains are)

pub all_linked_absent : (tests : List PathTest) (n : ℕ) (links : List Test) → length tests ≤ n → AreAbsentLinks (tests_of (take n tests)) links → AreAbsentLinks (tests_of tests) links
all_linked_absent tests n links all are = subst (λ (ts : List PathTest). AreAbsentLinks (tests_of ts) links) (take_all n tests all) are

-- the test at a place
pub test_contained : (tests : List PathTest) (i : ℕ) (test : PathTest) (is : Test) → i < length tests → test ≡ get_or tests i test → test_of test ≡ is → Contains (tests_of tests) is
test_contained tests i test is within at same =
    (i, omega (arith, within, length-map tests test_of), get_or-map test_of tests i test is within ∙ (ap test_of (sym at) ∙ same))
