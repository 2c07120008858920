use Rattle.std.proofs.Common.{◌+◌, [], List, Option, drop, sym, subst, take}
use Rattle.cck_cache_rules.specs.PathTest.{test_of, tests_of}
use Rattle.cck_cache_files.specs.PathTests.{AllHold, Fails, Holds, none_made, one_more}
use Rattle.cck_cache_files.specs.declared.identity.Identity.{Identity}
use Rattle.cck_cache_files.proofs.TestLemmas.{parted, taken}
use Rattle.cck_cache_files.proofs.path_tests.first_failing.Goals as goal

pub loop-test-init : goal.loop-test-init
loop-test-init g c = subst (λ (found : List (Option Identity)). AllHold [] found) (sym c.new-searched.ensures) none_made

pub loop-test-preserved : goal.loop-test-preserved
loop-test-preserved g c =
    let tests = c.args.tests.now in
    let i = c.loop-test.test-index in
    let test = c.test-item.result in
    let held : Holds c.loop-test.searched.identities.items (test_of test) c.holds.new.searched.identities.items = rw c.if-not-branch.false at c.in_ok-holds.ensures in
    one_more (test_of test) c.loop-test.invariant held (taken tests i test c.loop-test-test.true c.test-item.is)

pub returns-then-not-branch : goal.returns-then-not-branch
returns-then-not-branch g c =
    let tests = c.args.tests.now in
    let i = c.loop-test.test-index in
    let test = c.test-item.result in
    let failed : Fails c.loop-test.searched.identities.items (test_of test) = rw c.if-not-branch.true at c.in_ok-holds.ensures in
    (tests_of (take i tests), tests_of (drop (i + 1) tests), c.loop-test.searched.identities.items, parted tests i test c.loop-test-test.true c.test-item.is, c.loop-test.invariant, failed)
