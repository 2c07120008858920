use Rattle.std.proofs.Common.{ap, arith}
use Rattle.cck_cache_rules.specs.PathTest.{tests_of}
use Rattle.cck_cache_files.proofs.RealPathLemmas.{all_linked_absent, next_linked, none_linked, test_contained}
use Rattle.cck_cache_files.proofs.real_paths.absent_links.Goals as goal

pub loop-test-init : goal.loop-test-init
loop-test-init g c = none_linked (tests_of c.new-links.result.real.items) (ap tests_of c.new-links.ensures.real)

pub returns-then-not-branch : goal.returns-then-not-branch
returns-then-not-branch g c =
    let path = c.in_ok-add_absent.ensures.unknown c.if-not-branch.true in
    (path.0, test_contained c.args.tests.now c.loop-test.test-index c.test-item.result _ c.loop-test-test.true c.test-item.is path.1)

pub loop-test-preserved : goal.loop-test-preserved
loop-test-preserved g c =
    next_linked c.args.tests.now c.loop-test.test-index c.test-item.result (tests_of c.loop-test.links.real.items) (tests_of c.add_absent.new.self.real.items) c.loop-test-test.true c.test-item.is
    (c.in_ok-add_absent.ensures.gained c.if-not-branch.false) c.loop-test.invariant

pub returns : goal.returns
returns g c = all_linked_absent c.args.tests.now c.loop-test.test-index (tests_of c.loop-test.links.real.items) (omega (arith, c.loop-test-test.false)) c.loop-test.invariant
