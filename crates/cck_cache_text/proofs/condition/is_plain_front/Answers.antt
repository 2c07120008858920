use Rattle.std.proofs.Common.{◌≡◌, true, rules, tests}
use Rattle.std.specs.Prelude.{is_some}
use Rattle.std.proofs.lemmas.Iterator.{YieldsList-from_slice}
use Rattle.std.proofs.lemmas.Iterator.Search.{all_from_yields_List}
use Rattle.cck_cache_text.specs.Condition.{is_plain_byte}
use Rattle.cck_cache_text.specs.Directive.{condition_of}
use Rattle.cck_cache_text.proofs.condition.is_plain_front.Goals as goal

pub returns-then-is_some : goal.returns-then-is_some
returns-then-is_some c =
    let front = c.args.front.now in
    let some : is_some (condition_of front) ≡ true = search (rules, tests) in
    rw some (all_from_yields_List is_plain_byte _ _ c.all.result c.all.ensures.ran (YieldsList-from_slice front cc) (λ x b q k. search (rules, tests)))
