use Rattle.std.proofs.Common.{rules, sym, ◌∙◌}
use Rattle.std.proofs.lemmas.Iterator.{YieldsList-from_slice}
use Rattle.std.proofs.lemmas.Iterator.Search.{all_from_yields_List}
use Rattle.std.proofs.lemmas.List.Folds.{list_all-map}
use Rattle.cck_cache_text.specs.ReadFiles.{is_of_compiler}
use Rattle.cck_cache_text.proofs.read_files.are_of_compiler.Goals as goal

pub returns : goal.returns
returns c =
    let input = c.args.input.now in
    all_from_yields_List (λ name. is_of_compiler input name.items) _ _ c.all.result c.all.ensures.ran (YieldsList-from_slice c.args.read.now cc) (λ x b q k. search rules)
    ∙ sym (list_all-map (is_of_compiler input) (λ name. name.items) c.args.read.now)
