-- The tests up to one of them.
use Rattle.std.proofs.Common.{◌≡◌, ◌∙◌, ℕ, suc, ◌<◌, ◌+◌, List, [], ◌∷◌, ◌++◌, length, take, drop, get_or, sym, ap, add-one, drop-cons}
use Rattle.std.proofs.lemmas.List.{map-append, take-append-drop, take_more}
use Rattle.cck_cache_rules.specs.PathTest.{test_of, tests_of}
use Rattle.cck_cache_rules.specs.declared.path_test.PathTest.{PathTest}

pub taken : (tests : List PathTest) (i : ℕ) (test : PathTest) → i < length tests → test ≡ get_or tests i test → tests_of (take (i + 1) tests) ≡ tests_of (take i tests) ++ test_of test ∷ []
taken tests i test within is =
    ap tests_of (take_more tests i test within)
    ∙ (map-append test_of (take i tests) (get_or tests i test ∷ []) ∙ ap (λ (t : PathTest). tests_of (take i tests) ++ test_of t ∷ []) (sym is))

pub parted : (tests : List PathTest) (i : ℕ) (test : PathTest) → i < length tests → test ≡ get_or tests i test → tests_of tests ≡ tests_of (take i tests) ++ test_of test ∷ tests_of (drop (i + 1) tests)
parted tests i test within is =
    let left : drop i tests ≡ test ∷ drop (i + 1) tests = rw (add-one, drop-cons tests i test) (ap (λ (t : PathTest). t ∷ drop (suc i) tests) (sym is)) in
    ap tests_of (sym (take-append-drop i tests))
    ∙ (map-append test_of (take i tests) (drop i tests) ∙ ap (λ (ts : List PathTest). tests_of (take i tests) ++ tests_of ts) left)
