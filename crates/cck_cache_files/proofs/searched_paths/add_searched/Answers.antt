use Rattle.std.proofs.Common.{◌≡◌, ◌∙◌, ℕ, List, true, false, arith, length, refl, sym, ap, subst}
use Rattle.std.specs.Global.{Vec}
use Rattle.std.proofs.lemmas.List.{take_all}
use Rattle.cck_cache_text.specs.SearchList.{search_fields}
use Rattle.cck_cache_rules.specs.PathTest.{tests_of}
use Rattle.cck_cache_files.specs.SearchedPaths.{AddsRight, is_expected, none_added}
use Rattle.cck_cache_files.proofs.SearchedLemmas.{one_unexpected, right_more, wrong_here}
use Rattle.cck_path.specs.Bytes.{Bytes, lists_of}
use Rattle.cck_path.specs.Text.{join_path}
use Rattle.cck_cache_files.proofs.searched_paths.add_searched.Goals as goal

pub loop-name-init : goal.loop-name-init
loop-name-init g c = none_added refl refl

pub loop-name-preserved : goal.loop-name-preserved
loop-name-preserved g c =
    let search = search_fields c.args.search.now in
    let path_is : c.in_ok-path.path.items ≡ join_path c.args.directory.now c.name-item.result.items =
    ◌∙◌ {b = join_path c.args.directory.now c.deref.result.now} c.in_ok-path.ensures.bytes (ap (λ (n : Bytes). join_path c.args.directory.now n) c.deref.ensures.value) in
    let place_is : c.len-place.result ≡ length c.loop-name.tests.items = omega arith in
    let expected : is_expected search c.len-place.result c.in-Some.first ≡ true = sym c.is_expected.ensures ∙ c.if-not-is_expected.false in
    right_more c.args.directory.now search c.args.searched.now.identities.items (tests_of c.args.tests.now.items) c.args.names.now c.loop-name.name-index c.name-item.result c.loop-name-test.true c.name-item.is
    c.loop-name.searched.identities.items c.add.new.self.identities.items c.loop-name.tests.items c.push.new.self.items c.in_ok-path.path c.deref-in-loop-name.result.now c.len-place.result c.in-Some.first
    path_is c.deref-in-loop-name.ensures.value place_is (rw c.in-Some.is at c.in_ok-first.ensures.added) expected c.in_ok-push.ensures.items c.loop-name.invariant

pub returns-in_default-clause-added : goal.returns-in_default-clause-added
returns-in_default-clause-added g c =
    wrong_here c.args.directory.now (search_fields c.args.search.now) c.args.searched.now.identities.items (tests_of c.args.tests.now.items) c.args.names.now c.loop-name.name-index c.name-item.result c.loop-name-test.true c.name-item.is
    c.loop-name.searched.identities.items c.add.new.self.identities.items c.loop-name.tests.items c.deref-in-loop-name.result.now c.len-place.result c.in_ok-first.field-0
    (omega arith) c.in_ok-first.ensures.added (λ p e. absurd (c.in_default.not-Some p e)) c.loop-name.invariant

pub returns-then-not-is_expected-clause-added : goal.returns-then-not-is_expected-clause-added
returns-then-not-is_expected-clause-added g c =
    let search = search_fields c.args.search.now in
    let unexpected : is_expected search c.len-place.result c.in-Some.first ≡ false = sym c.is_expected.ensures ∙ c.if-not-is_expected.true in
    wrong_here c.args.directory.now search c.args.searched.now.identities.items (tests_of c.args.tests.now.items) c.args.names.now c.loop-name.name-index c.name-item.result c.loop-name-test.true c.name-item.is
    c.loop-name.searched.identities.items c.add.new.self.identities.items c.loop-name.tests.items c.deref-in-loop-name.result.now c.len-place.result c.in_ok-first.field-0
    (omega arith) c.in_ok-first.ensures.added (one_unexpected search c.len-place.result c.in-Some.first c.in_ok-first.field-0 c.in-Some.is unexpected) c.loop-name.invariant

pub returns-clause-added : goal.returns-clause-added
returns-clause-added g c =
    subst (λ (names : List (Vec ℕ)). AddsRight c.args.directory.now (search_fields c.args.search.now) c.args.searched.now.identities.items (tests_of c.args.tests.now.items) (lists_of names) c.loop-name.searched.identities.items (tests_of c.loop-name.tests.items))
    (take_all c.loop-name.name-index c.args.names.now c.loop-name-test.false) c.loop-name.invariant
