use Rattle.std.proofs.Common.{◌≡◌, ◌∙◌, ℕ, [], ap, arith, get_or, length, sym}
use Rattle.std.specs.Global.{Vec}
use Rattle.std.specs.Map.Iter.{deref}
use Rattle.std.proofs.lemmas.List.{length-map, length_push}
use Rattle.std.proofs.lemmas.Map.Iter.{iter_end}
use Rattle.cck_cache_rules.specs.PathTest.{Directory, tests_of}
use Rattle.cck_cache_rules.specs.declared.path_test.PathTest.TheVariants as program
use Rattle.cck_cache_text.proofs.SetLemmas.{set_turn}
use Rattle.cck_path.specs.Bytes.{lists_of}
use Rattle.cck_cache_files.proofs.AbsenceLemmas.{all_tested, one_tested}
use Rattle.cck_cache_files.proofs.absence.add_directories.Goals as goal

pub loop-path-preserved : goal.loop-path-preserved
loop-path-preserved c =
    let keys = c.args.paths.now.keys in
    let i = length c.loop-path.yielded in
    let turn = set_turn keys c.loop-path.yielded c.into_iter-path-iterator.result c.loop-path.path-iterator c.next.new.self c.next.result c.in-Some.path
    c.into_iter-path-iterator.ensures.into_iter_gives.0 c.loop-path.yielded_by c.in-Some.is c.next.ensures.steps in
    let copy = c.in_ok-to_vec.field-0 in
    let is : copy.items ≡ get_or (lists_of keys) i [] =
    c.in_ok-to_vec.ensures.items_if_clones_equal (λ x y e. e) ∙ (c.deref.ensures.value ∙ sym turn.1) in
    rw (length_push c.loop-path.yielded c.in-Some.path)
    (one_tested Directory (tests_of c.args.tests.now.items) c.loop-path.tests.items c.push.new.self.items (program.Directory copy) (lists_of keys) i
    (omega (arith, turn.0, length-map keys (λ (v : Vec ℕ). v.items))) (ap Directory is) c.in_ok-push.ensures.items c.loop-path.invariant)

pub returns : goal.returns
returns c =
    let keys = c.args.paths.now.keys in
    let ends = iter_end deref keys c.loop-path.yielded c.into_iter-path-iterator.result c.loop-path.path-iterator c.next.new.self c.next.result
    c.into_iter-path-iterator.ensures.into_iter_gives.0 c.loop-path.yielded_by c.in-None.is c.next.ensures.steps in
    all_tested Directory (tests_of c.args.tests.now.items) c.loop-path.tests.items (lists_of keys) (length c.loop-path.yielded)
    (omega (arith, ends.1, length-map keys (λ (v : Vec ℕ). v.items))) c.loop-path.invariant
