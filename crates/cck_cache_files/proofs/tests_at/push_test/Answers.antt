use Rattle.std.proofs.Common.{Contains, List, refl, subst}
use Rattle.cck_cache_rules.specs.PathTest.{test_of, tests_of}
use Rattle.cck_cache_rules.specs.declared.path_test.PathTest.{PathTest}
use Rattle.cck_cache_files.proofs.TestsAtLemmas.{gains_known, gains_pushed}
use Rattle.cck_cache_files.proofs.tests_at.push_test.Goals as goal

pub returns-then-is_last : goal.returns-then-is_last
returns-then-is_last c =
    gains_known (tests_of c.args.tests.now.items) (test_of c.args.test) (subst (λ (ts : List PathTest). Contains (tests_of ts) (test_of c.args.test)) c.deref.ensures.value (c.if-is_last.ensures refl))

pub returns : goal.returns
returns c = gains_pushed c.args.tests.now.items c.push.new.self.items c.args.test c.in_ok-push.ensures.items
