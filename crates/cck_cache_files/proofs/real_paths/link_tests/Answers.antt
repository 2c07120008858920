use Rattle.std.proofs.Common.{◌≡◌, ◌+◌, ◌∙◌, ◌⊎◌, inl, inr, ℕ, [], IsTrue, get_or, length, map, refl, sym, ap, subst, arith}
use Rattle.std.specs.Global.{Vec}
use Rattle.std.specs.Map.Iter.{deref}
use Rattle.std.proofs.lemmas.List.{length_push}
use Rattle.std.proofs.lemmas.Map.Iter.{iter_end}
use Rattle.cck_cache_text.specs.Sets.{has_key}
use Rattle.cck_cache_text.proofs.SetLemmas.{set_turn}
use Rattle.cck_path.specs.Bytes.{Bytes}
use Rattle.cck_path.specs.Text.{join_path}
use Rattle.cck_cache_files.specs.RealPaths.{IsPathOf}
use Rattle.cck_cache_files.proofs.RealPathLemmas.{more_placed, none_placed, placed_as}
use Rattle.cck_cache_files.proofs.SetLemmas.{IsAmong, among_keys, key_among, more_names, next_name, no_name}
use Rattle.cck_cache_files.proofs.real_paths.link_tests.Goals as goal

pub loop-name-init : goal.loop-name-init
loop-name-init g c =
    none_placed (IsPathOf c.args.directory.now (IsAmong c.args.names.now.keys 0)) c.new-tests.result
    (λ path at. no_name c.args.names.now.keys at.0 at.1) c.new-tests.ensures.plain c.new-tests.ensures.real

pub returns-then-not-branch-clause-tests : goal.returns-then-not-branch-clause-tests
returns-then-not-branch-clause-tests g c =
    let keys = c.args.names.now.keys in
    let i = length c.loop-name.yielded in
    let turn = set_turn keys c.loop-name.yielded c.into_iter-name-iterator.result c.loop-name.name-iterator c.next.new.self c.next.result c.in-Some.name
    c.into_iter-name-iterator.ensures.into_iter_gives.0 c.loop-name.yielded_by c.in-Some.is c.next.ensures.steps in
    let name : Bytes = get_or (map (λ (k : Vec ℕ). k.items) keys) i [] in
    (name, among_keys c.args.names.now (i + 1) name (omega (arith, turn.0)) (i, omega arith, refl))

pub loop-name-preserved : goal.loop-name-preserved
loop-name-preserved g c =
    let keys = c.args.names.now.keys in
    let i = length c.loop-name.yielded in
    let directory = c.args.directory.now in
    let turn = set_turn keys c.loop-name.yielded c.into_iter-name-iterator.result c.loop-name.name-iterator c.next.new.self c.next.result c.in-Some.name
    c.into_iter-name-iterator.ensures.into_iter_gives.0 c.loop-name.yielded_by c.in-Some.is c.next.ensures.steps in
    let name : Bytes = get_or (map (λ (k : Vec ℕ). k.items) keys) i [] in
    let path : Bytes = c.deref-in-loop-name.result.now in
    let path_is : path ≡ join_path directory name =
    ◌∙◌ {b = c.in_ok-path.path.items} c.deref-in-loop-name.ensures.value (c.in_ok-path.ensures.bytes ∙ ap (λ (n : Bytes). join_path directory n) (c.deref.ensures.value ∙ sym turn.1)) in
    let Before : Bytes → Type 0 = IsPathOf directory (IsAmong keys i) in
    let After : Bytes → Type 0 = IsPathOf directory (IsAmong keys (i + 1)) in
    let back : (p : Bytes) → After p → Before p ⊎ (path ≡ p) =
    λ p at. elim (next_name keys i at.0 at.1) [
      | inl before ↦ inl (at.0, before, at.2)
      | inr same ↦ inr (path_is ∙ (ap (λ (n : Bytes). join_path directory n) same ∙ sym at.2))
    ] in
    rw (length_push c.loop-name.yielded c.in-Some.name)
    (more_placed Before After c.loop-name.tests c.add.new.self path (λ p at. (at.0, more_names keys i at.0 at.1, at.2)) (name, (i, omega arith, refl), path_is) back (c.in_ok-add.ensures c.if-not-branch.false)
    c.loop-name.invariant)

pub returns-clause-tests : goal.returns-clause-tests
returns-clause-tests g c =
    let names = c.args.names.now in
    let keys = names.keys in
    let n = length c.loop-name.yielded in
    let directory = c.args.directory.now in
    let ends = iter_end deref keys c.loop-name.yielded c.into_iter-name-iterator.result c.loop-name.name-iterator c.next.new.self c.next.result
    c.into_iter-name-iterator.ensures.into_iter_gives.0 c.loop-name.yielded_by c.in-None.is c.next.ensures.steps in
    let same : length keys ≡ n = omega (arith, ends.1) in
    placed_as (IsPathOf directory (IsAmong keys n)) (IsPathOf directory (λ name. IsTrue (has_key names name))) c.loop-name.tests
    (λ p at. (at.0, among_keys names n at.0 (omega (arith, same)) at.1, at.2)) (λ p at. (at.0, subst (λ (k : ℕ). IsAmong keys k at.0) same (key_among names at.0 at.1), at.2)) c.loop-name.invariant
