use Rattle.std.proofs.Common.{IsTrue, subst}
use Rattle.std.proofs.lemmas.Result.{IfOk-weaker}
use Rattle.cck_cache_rules.specs.PathTest.{test_of, tests_of}
use Rattle.cck_cache_files.specs.RealPaths.{GainsLink, GainsReal}
use Rattle.cck_cache_files.proofs.RealPathLemmas.{link_gained}
use Rattle.cck_path.specs.Bytes.{Bytes}
use Rattle.cck_cache_files.proofs.real_paths.LinkTests.add_absent.Goals as goal

pub returns-in-Some-clause-gained : goal.returns-in-Some-clause-gained
returns-in-Some-clause-gained g c =
    let old = tests_of c.args.self.now.real.items in
    let new = tests_of c.add_real.new.self.real.items in
    IfOk-weaker c.add_real.result (λ known. IsTrue known → GainsReal old c.directory_of.result.now new) (λ known. IsTrue known → GainsLink old (test_of c.args.test.now) new)
    (λ known is yes. link_gained old new (test_of c.args.test.now) c.in-Some.path.now c.in-Some.ensures (subst (λ (d : Bytes). GainsReal old d new) c.directory_of.ensures (is yes))) c.add_real.ensures.real
