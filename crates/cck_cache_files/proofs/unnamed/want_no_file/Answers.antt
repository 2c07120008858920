use Rattle.std.proofs.Common.{rules, sym, ◌∙◌}
use Rattle.std.proofs.lemmas.Iterator.{YieldsList-from_slice}
use Rattle.std.proofs.lemmas.Iterator.Search.{all_from_yields_List}
use Rattle.std.proofs.lemmas.List.Folds.{list_all-map}
use Rattle.cck_cache_rules.specs.PathTest.{test_of}
use Rattle.cck_cache_files.specs.Unnamed.{wants_no_file}
use Rattle.cck_cache_files.proofs.unnamed.want_no_file.Goals as goal

pub returns : goal.returns
returns c =
    all_from_yields_List (λ test. wants_no_file (test_of test)) _ _ c.all.result c.all.ensures.ran (YieldsList-from_slice c.args.tests.now cc) (λ x b q k. search rules)
    ∙ sym (list_all-map wants_no_file test_of c.args.tests.now)
