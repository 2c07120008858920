use Rattle.std.proofs.Common.{◌≡◌, true, false, nat_lt, length, rules, tests}
use Rattle.std.proofs.lemmas.Iterator.{YieldsList-from_slice}
use Rattle.std.proofs.lemmas.Iterator.Search.{all_from_yields_List}
use Rattle.cck_cache_text.specs.TestName.{has_comment, is_name_byte}
use Rattle.cck_cache_text.proofs.test_name.is_plain_name.Goals as goal

pub returns-then-not-has_comment : goal.returns-then-not-has_comment
returns-then-not-has_comment c =
    let name = c.args.name.now in
    let some : nat_lt 0 (length name) ≡ true = search (rules, tests) in
    let none : has_comment name ≡ false = search (rules, tests) in
    rw some (rw none (all_from_yields_List is_name_byte _ _ c.all.result c.all.ensures.ran (YieldsList-from_slice name cc) (λ x b q k. search (rules, tests))))
