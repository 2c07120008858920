use Rattle.std.proofs.Common.{◌≡◌, ◌+◌, ◌∙◌, ℕ, List, [], IsTrue, get_or, inl, inr, length, map, refl, sym, ap, subst, arith}
use Rattle.std.specs.Global.{Vec}
use Rattle.std.specs.Map.Iter.{deref}
use Rattle.std.proofs.lemmas.List.{length_push}
use Rattle.std.proofs.lemmas.Map.Iter.{iter_end}
use Rattle.cck_cache_text.specs.Sets.{has_key}
use Rattle.cck_cache_text.proofs.SetLemmas.{set_turn}
use Rattle.cck_cache_files.proofs.StateLemmas.{KeepsStates-trans}
use Rattle.cck_cache_rules.specs.PathTest.{Absent, Directory, File, Test, tests_of}
use Rattle.cck_cache_rules.specs.declared.path_test.PathTest.{PathTest}
use Rattle.cck_path.specs.Bytes.{Bytes}
use Rattle.cck_path.specs.Text.{join_path}
use Rattle.cck_cache_files.specs.TestsAt.{GainsTest}
use Rattle.cck_cache_files.specs.Unnamed.{AreUnreadTests, IsUnclear}
use Rattle.cck_cache_files.proofs.SetLemmas.{IsAmong, among_keys, key_among}
use Rattle.cck_cache_files.proofs.UnnamedLemmas.{next_there, next_unread, no_tests, unread_same}
use Rattle.cck_cache_files.proofs.unnamed.unread_tests.Goals as goal
use Rattle.cck_cache_files.proofs.unnamed.unread_tests.Goals.{in-Absent+in_ok-to_vec-in-Absent+in_ok-push_test-in-Absent, in-Below+in_ok-to_vec-in-Below+in_ok-push_test-in-Below, in-Directory+in_ok-to_vec-in-Directory+in_ok-push_test-in-Directory, in-There+else-not-is_file}

pub loop-name-init : goal.loop-name-init
loop-name-init g c = (
  record { since = refl; states = λ path state e. e },
  subst (λ (ts : List PathTest). AreUnreadTests c.args.states.now c.args.directory.now (IsAmong c.args.names.now.keys 0) (tests_of ts)) (sym c.new-tests.ensures.items)
      (no_tests c.args.states.now c.args.directory.now c.args.names.now.keys),
)

pub returns-in-Unknown-clause-tests : goal.returns-in-Unknown-clause-tests
returns-in-Unknown-clause-tests g c =
    let keys = c.args.names.now.keys in
    let i = length c.loop-name.yielded in
    let states = c.presence_at.new.states in
    let turn = set_turn keys c.loop-name.yielded c.into_iter-name-iterator.result c.loop-name.name-iterator c.next.new.self c.next.result c.in-Some.name
    c.into_iter-name-iterator.ensures.into_iter_gives.0 c.loop-name.yielded_by c.in-Some.is c.next.ensures.steps in
    let name : Bytes = get_or (map (λ (k : Vec ℕ). k.items) keys) i [] in
    let path_is : c.deref-in-loop-name.result.now ≡ join_path c.args.directory.now name =
    ◌∙◌ {b = c.in_ok-path.path.items} c.deref-in-loop-name.ensures.value (c.in_ok-path.ensures.bytes ∙ ap (λ (n : Bytes). join_path c.args.directory.now n) (c.deref.ensures.value ∙ sym turn.1)) in
    let unclear : IsUnclear states c.deref-in-loop-name.result.now = inr (rw c.in-Unknown.is at c.in_ok-presence.ensures.presence) in (
      name,
      among_keys c.args.names.now (i + 1) name (omega (arith, turn.0)) (i, omega arith, refl),
      subst (λ (p : Bytes). IsUnclear states p) path_is unclear,
    )

pub returns-in-Unknown-clause-kept : goal.returns-in-Unknown-clause-kept
returns-in-Unknown-clause-kept g c =
    KeepsStates-trans c.args.states.now c.loop-name.states c.presence_at.new.states c.loop-name.invariant.0 c.presence_at.ensures.kept

pub returns-in_err-to_vec-in-Absent-clause-kept : goal.returns-in_err-to_vec-in-Absent-clause-kept
returns-in_err-to_vec-in-Absent-clause-kept g c =
    KeepsStates-trans c.args.states.now c.loop-name.states c.presence_at.new.states c.loop-name.invariant.0 c.presence_at.ensures.kept

pub returns-in_err-push_test-in-Absent-clause-kept : goal.returns-in_err-push_test-in-Absent-clause-kept
returns-in_err-push_test-in-Absent-clause-kept g c =
    KeepsStates-trans c.args.states.now c.loop-name.states c.presence_at.new.states c.loop-name.invariant.0 c.presence_at.ensures.kept

pub returns-in_err-to_vec-in-Below-clause-kept : goal.returns-in_err-to_vec-in-Below-clause-kept
returns-in_err-to_vec-in-Below-clause-kept g c =
    KeepsStates-trans c.args.states.now c.loop-name.states c.presence_at.new.states c.loop-name.invariant.0 c.presence_at.ensures.kept

pub returns-in_err-push_test-in-Below-clause-kept : goal.returns-in_err-push_test-in-Below-clause-kept
returns-in_err-push_test-in-Below-clause-kept g c =
    KeepsStates-trans c.args.states.now c.loop-name.states c.presence_at.new.states c.loop-name.invariant.0 c.presence_at.ensures.kept

pub returns-in_err-to_vec-in-Directory-clause-kept : goal.returns-in_err-to_vec-in-Directory-clause-kept
returns-in_err-to_vec-in-Directory-clause-kept g c =
    KeepsStates-trans c.args.states.now c.loop-name.states c.presence_at.new.states c.loop-name.invariant.0 c.presence_at.ensures.kept

pub returns-in_err-push_test-in-Directory-clause-kept : goal.returns-in_err-push_test-in-Directory-clause-kept
returns-in_err-push_test-in-Directory-clause-kept g c =
    KeepsStates-trans c.args.states.now c.loop-name.states c.presence_at.new.states c.loop-name.invariant.0 c.presence_at.ensures.kept

pub returns-then-not-is_file-clause-tests : goal.returns-then-not-is_file-clause-tests
returns-then-not-is_file-clause-tests g c =
    let keys = c.args.names.now.keys in
    let i = length c.loop-name.yielded in
    let states = c.presence_at.new.states in
    let turn = set_turn keys c.loop-name.yielded c.into_iter-name-iterator.result c.loop-name.name-iterator c.next.new.self c.next.result c.in-Some.name
    c.into_iter-name-iterator.ensures.into_iter_gives.0 c.loop-name.yielded_by c.in-Some.is c.next.ensures.steps in
    let name : Bytes = get_or (map (λ (k : Vec ℕ). k.items) keys) i [] in
    let path_is : c.deref-in-loop-name.result.now ≡ join_path c.args.directory.now name =
    ◌∙◌ {b = c.in_ok-path.path.items} c.deref-in-loop-name.ensures.value (c.in_ok-path.ensures.bytes ∙ ap (λ (n : Bytes). join_path c.args.directory.now n) (c.deref.ensures.value ∙ sym turn.1)) in
    let unclear : IsUnclear states c.deref-in-loop-name.result.now = inl (rw c.in-There.is at c.in_ok-presence.ensures.presence) in (
      name,
      among_keys c.args.names.now (i + 1) name (omega (arith, turn.0)) (i, omega arith, refl),
      subst (λ (p : Bytes). IsUnclear states p) path_is unclear,
    )

pub returns-then-not-is_file-clause-kept : goal.returns-then-not-is_file-clause-kept
returns-then-not-is_file-clause-kept g c =
    KeepsStates-trans c.args.states.now c.loop-name.states c.presence_at.new.states c.loop-name.invariant.0 c.presence_at.ensures.kept

pub loop-name-preserved : goal.loop-name-preserved
loop-name-preserved g c =
    let keys = c.args.names.now.keys in
    let i = length c.loop-name.yielded in
    let directory = c.args.directory.now in
    let old = c.loop-name.states in
    let new = c.presence_at.new.states in
    let keeps = c.presence_at.ensures.kept in
    let turn = set_turn keys c.loop-name.yielded c.into_iter-name-iterator.result c.loop-name.name-iterator c.next.new.self c.next.result c.in-Some.name
    c.into_iter-name-iterator.ensures.into_iter_gives.0 c.loop-name.yielded_by c.in-Some.is c.next.ensures.steps in
    let path = c.deref-in-loop-name.result.now in
    let path_is : path ≡ join_path directory (get_or (map (λ (k : Vec ℕ). k.items) keys) i []) =
    ◌∙◌ {b = c.in_ok-path.path.items} c.deref-in-loop-name.ensures.value (c.in_ok-path.ensures.bytes ∙ ap (λ (n : Bytes). join_path directory n) (c.deref.ensures.value ∙ sym turn.1)) in
    let P : Vec PathTest → Type 0 = λ ts. AreUnreadTests new directory (IsAmong keys (i + 1)) (tests_of ts.items) in
    let before = tests_of c.loop-name.tests.items in
    let copied : (make : Bytes → Test) (copy : Vec ℕ) (from : Bytes) → copy.items ≡ from → (after : List Test) → GainsTest before (make copy.items) after → GainsTest before (make from) after =
    λ make copy from same after gains. subst (λ (p : Bytes). GainsTest before (make p) after) same gains in
    let more : P c.match-presence.tests = elim c.match-presence.branch [
      | in-Absent+in_ok-to_vec-in-Absent+in_ok-push_test-in-Absent w ↦ subst P (sym w.tests-is)
          (next_unread old new directory keys i keeps path path_is (Absent w.in-Absent.front.now) before (tests_of w.push_test.new.tests.items)
          (rw w.in-Absent.is at c.in_ok-presence.ensures.presence) (copied Absent w.in_ok-to_vec-in-Absent.field-0 w.in-Absent.front.now (w.in_ok-to_vec-in-Absent.ensures.items_if_clones_equal (λ x y e. e)) (tests_of w.push_test.new.tests.items) w.in_ok-push_test-in-Absent.ensures) c.loop-name.invariant.1)
      | in-Below+in_ok-to_vec-in-Below+in_ok-push_test-in-Below w ↦ subst P (sym w.tests-is)
          (next_unread old new directory keys i keeps path path_is (File w.in-Below.front.now) before (tests_of w.push_test-in-Below.new.tests.items)
          (rw w.in-Below.is at c.in_ok-presence.ensures.presence) (copied File w.in_ok-to_vec-in-Below.field-0 w.in-Below.front.now (w.in_ok-to_vec-in-Below.ensures.items_if_clones_equal (λ x y e. e)) (tests_of w.push_test-in-Below.new.tests.items) w.in_ok-push_test-in-Below.ensures) c.loop-name.invariant.1)
      | in-Directory+in_ok-to_vec-in-Directory+in_ok-push_test-in-Directory w ↦ subst P (sym w.tests-is)
          (next_unread old new directory keys i keeps path path_is (Directory w.deref-in-Directory.result.now) before (tests_of w.push_test-in-Directory.new.tests.items)
          (w.deref-in-Directory.ensures.value ∙ sym c.deref-in-loop-name.ensures.value, rw w.in-Directory.is at c.in_ok-presence.ensures.presence) (copied Directory w.in_ok-to_vec-in-Directory.field-0 w.deref-in-Directory.result.now (w.in_ok-to_vec-in-Directory.ensures.items_if_clones_equal (λ x y e. e)) (tests_of w.push_test-in-Directory.new.tests.items) w.in_ok-push_test-in-Directory.ensures) c.loop-name.invariant.1)
      | in-There+else-not-is_file w ↦ subst P (sym w.tests-is)
          (next_there old new directory keys i keeps path path_is before (rw w.in-There.is at c.in_ok-presence.ensures.presence) c.loop-name.invariant.1)
    ] in (
      KeepsStates-trans c.args.states.now old new c.loop-name.invariant.0 keeps,
      rw (length_push c.loop-name.yielded c.in-Some.name) more,
    )

pub returns-clause-tests : goal.returns-clause-tests
returns-clause-tests g c =
    let names = c.args.names.now in
    let keys = names.keys in
    let n = length c.loop-name.yielded in
    let ends = iter_end deref keys c.loop-name.yielded c.into_iter-name-iterator.result c.loop-name.name-iterator c.next.new.self c.next.result
    c.into_iter-name-iterator.ensures.into_iter_gives.0 c.loop-name.yielded_by c.in-None.is c.next.ensures.steps in
    let same : length keys ≡ n = omega (arith, ends.1) in
    unread_same c.loop-name.states c.args.directory.now (IsAmong keys n) (λ name. IsTrue (has_key names name)) (λ name among. among_keys names n name (omega (arith, same)) among)
    (λ name has. subst (λ (k : ℕ). IsAmong keys k name) same (key_among names name has)) (tests_of c.loop-name.tests.items) c.loop-name.invariant.1

pub returns-clause-kept : goal.returns-clause-kept
returns-clause-kept g c = c.loop-name.invariant.0
