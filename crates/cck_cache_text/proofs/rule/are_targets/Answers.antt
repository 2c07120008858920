use Rattle.std.proofs.Common.{nat_eq, rules, tests}
use Rattle.std.proofs.lemmas.Iterator.Search.{all_from_yields_List}
use Rattle.std.proofs.lemmas.Iterator.Splits.{YieldsList-from_slice_split}
use Rattle.cck_cache_text.specs.Rule.{is_target}
use Rattle.cck_cache_text.proofs.rule.are_targets.Goals as goal

pub returns : goal.returns
returns c =
    all_from_yields_List is_target _ _ c.all.result c.all.ensures.ran
    (YieldsList-from_slice_split _ (λ b. nat_eq b 10) c.args.text.now c.split.ensures.rest c.split.ensures.done c.split.ensures.closure (λ x b q k. search (rules, tests)))
    (λ x b q k. search rules)
