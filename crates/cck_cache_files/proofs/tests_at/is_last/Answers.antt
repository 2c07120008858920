use Rattle.std.proofs.Common.{◌≡◌, ◌<◌, ◌-◌, ◌∙◌, Contains, length, sym, subst, arith}
use Rattle.std.proofs.lemmas.Option.{get_or_from_slice_get}
use Rattle.cck_cache_rules.specs.PathTest.{Test, test_of, tests_of}
use Rattle.cck_cache_rules.proofs.EqualityLemmas.{test_decides}
use Rattle.cck_cache_files.proofs.SetLemmas.{contains_map}
use Rattle.cck_cache_files.proofs.tests_at.is_last.Goals as goal

pub returns-in-Some : goal.returns-in-Some
returns-in-Some c t =
    let tests = c.args.tests.now in
    let last = c.in-Some.last.now in
    let same : test_of last ≡ test_of c.args.test.now = (test_decides last c.args.test.now).0 (sym c.eq.ensures ∙ t) in
    let within : length tests - 1 < length tests = omega (arith, c.in-Some.ensures.item.3.0) in
    subst (λ (test : Test). Contains (tests_of tests) test) same
    (contains_map test_of tests last (length tests - 1, within, get_or_from_slice_get tests (length tests - 1) last last (sym c.in-Some.ensures.value)))
