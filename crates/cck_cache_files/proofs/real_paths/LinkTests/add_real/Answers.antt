use Rattle.std.proofs.Common.{ap}
use Rattle.cck_cache_rules.specs.PathTest.{Real, tests_of}
use Rattle.cck_cache_rules.specs.declared.path_test.PathTest.TheVariants as program
use Rattle.cck_path.specs.Bytes.{Bytes}
use Rattle.cck_cache_files.proofs.RealPathLemmas.{one_pushed, real_gained}
use Rattle.cck_cache_files.proofs.real_paths.LinkTests.add_real.Goals as goal

pub returns-clause-real : goal.returns-clause-real
returns-clause-real g c known =
    let old = c.args.self.now.real.items in
    let new = c.push.new.self.items in
    let copy = c.in_ok-to_vec.field-0 in
    let path = c.args.path.now in
    let leads = c.in-Some.real.items in
    real_gained (tests_of old) (tests_of new) path leads
    (one_pushed old new (program.Real copy c.in-Some.real) (Real path leads) (ap (λ (p : Bytes). Real p leads) (c.in_ok-to_vec.ensures.items_if_clones_equal (λ x y e. e))) c.in_ok-push.ensures.items)
