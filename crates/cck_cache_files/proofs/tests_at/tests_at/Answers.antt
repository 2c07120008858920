use Rattle.std.proofs.Common.{◌≡◌, ◌+◌, ◌∙◌, ℕ, List, [], IsTrue, get_or, length, map, refl, sym, ap, subst, arith}
use Rattle.std.specs.Global.{Vec}
use Rattle.std.specs.Map.Iter.{deref}
use Rattle.std.proofs.lemmas.List.{length_push}
use Rattle.std.proofs.lemmas.Map.Iter.{iter_end}
use Rattle.cck_cache_rules.specs.PathTest.{test_of, tests_of}
use Rattle.cck_cache_text.specs.Sets.{has_key}
use Rattle.cck_cache_rules.specs.declared.path_test.PathTest.{PathTest}
use Rattle.cck_cache_text.proofs.SetLemmas.{set_turn}
use Rattle.cck_cache_files.proofs.StateLemmas.{KeepsStates-trans}
use Rattle.cck_path.specs.Bytes.{Bytes}
use Rattle.cck_path.specs.Text.{join_path}
use Rattle.cck_cache_files.specs.TestsAt.{AreTestsAt, IsDoubtfulAt}
use Rattle.cck_cache_files.proofs.SetLemmas.{IsAmong, among_keys, key_among}
use Rattle.cck_cache_files.proofs.TestsAtLemmas.{next_test, no_tests, tests_for_same}
use Rattle.cck_cache_files.proofs.tests_at.tests_at.Goals as goal

pub loop-name-init : goal.loop-name-init
loop-name-init g c = (
  record { since = refl; states = λ path state e. e },
  subst (λ (ts : List PathTest). AreTestsAt c.args.states.now c.args.directory.now (IsAmong c.args.names.now.keys 0) (tests_of ts)) (sym c.new-tests.ensures.items)
      (no_tests c.args.states.now c.args.directory.now c.args.names.now.keys),
)

pub returns-in_default-clause-tests : goal.returns-in_default-clause-tests
returns-in_default-clause-tests g c =
    let keys = c.args.names.now.keys in
    let i = length c.loop-name.yielded in
    let turn = set_turn keys c.loop-name.yielded c.into_iter-name-iterator.result c.loop-name.name-iterator c.next.new.self c.next.result c.in-Some.name
    c.into_iter-name-iterator.ensures.into_iter_gives.0 c.loop-name.yielded_by c.in-Some.is c.next.ensures.steps in
    let name : Bytes = get_or (map (λ (k : Vec ℕ). k.items) keys) i [] in
    let path_is : c.deref-in-loop-name.result.now ≡ join_path c.args.directory.now name =
    ◌∙◌ {b = c.in_ok-path.path.items} c.deref-in-loop-name.ensures.value (c.in_ok-path.ensures.bytes ∙ ap (λ (n : Bytes). join_path c.args.directory.now n) (c.deref.ensures.value ∙ sym turn.1)) in (
      name,
      among_keys c.args.names.now (i + 1) name (omega (arith, turn.0)) (i, omega arith, refl),
      subst (λ (p : Bytes). IsDoubtfulAt c.test_at.new.states p) path_is (rw c.in_default.is at c.in_ok-test.ensures.test),
    )

pub returns-in_default-clause-kept : goal.returns-in_default-clause-kept
returns-in_default-clause-kept g c =
    KeepsStates-trans c.args.states.now c.loop-name.states c.test_at.new.states c.loop-name.invariant.0 c.test_at.ensures.kept

pub returns-in_err-test-clause-kept : goal.returns-in_err-test-clause-kept
returns-in_err-test-clause-kept g c =
    KeepsStates-trans c.args.states.now c.loop-name.states c.test_at.new.states c.loop-name.invariant.0 c.test_at.ensures.kept

pub returns-in_err-push_test-clause-kept : goal.returns-in_err-push_test-clause-kept
returns-in_err-push_test-clause-kept g c =
    KeepsStates-trans c.args.states.now c.loop-name.states c.test_at.new.states c.loop-name.invariant.0 c.test_at.ensures.kept

pub loop-name-preserved : goal.loop-name-preserved
loop-name-preserved g c =
    let keys = c.args.names.now.keys in
    let i = length c.loop-name.yielded in
    let directory = c.args.directory.now in
    let old = c.loop-name.states in
    let new = c.test_at.new.states in
    let keeps = c.test_at.ensures.kept in
    let turn = set_turn keys c.loop-name.yielded c.into_iter-name-iterator.result c.loop-name.name-iterator c.next.new.self c.next.result c.in-Some.name
    c.into_iter-name-iterator.ensures.into_iter_gives.0 c.loop-name.yielded_by c.in-Some.is c.next.ensures.steps in
    let path = c.deref-in-loop-name.result.now in
    let path_is : path ≡ join_path directory (get_or (map (λ (k : Vec ℕ). k.items) keys) i []) =
    ◌∙◌ {b = c.in_ok-path.path.items} c.deref-in-loop-name.ensures.value (c.in_ok-path.ensures.bytes ∙ ap (λ (n : Bytes). join_path directory n) (c.deref.ensures.value ∙ sym turn.1)) in
    let test = c.in-Some-2.test in (
      KeepsStates-trans c.args.states.now old new c.loop-name.invariant.0 keeps,
      rw (length_push c.loop-name.yielded c.in-Some.name)
          (next_test old new directory keys i keeps path (test_of test) (tests_of c.loop-name.tests.items) (tests_of c.push_test.new.tests.items) path_is (rw c.in-Some-2.is at c.in_ok-test.ensures.test) c.in_ok-push_test.ensures c.loop-name.invariant.1),
    )

pub returns-clause-tests : goal.returns-clause-tests
returns-clause-tests g c =
    let names = c.args.names.now in
    let keys = names.keys in
    let n = length c.loop-name.yielded in
    let ends = iter_end deref keys c.loop-name.yielded c.into_iter-name-iterator.result c.loop-name.name-iterator c.next.new.self c.next.result
    c.into_iter-name-iterator.ensures.into_iter_gives.0 c.loop-name.yielded_by c.in-None.is c.next.ensures.steps in
    let same : length keys ≡ n = omega (arith, ends.1) in
    tests_for_same c.loop-name.states c.args.directory.now (IsAmong keys n) (λ name. IsTrue (has_key names name)) (tests_of c.loop-name.tests.items)
    (λ name among. among_keys names n name (omega (arith, same)) among) (λ name has. subst (λ (k : ℕ). IsAmong keys k name) same (key_among names name has)) c.loop-name.invariant.1
