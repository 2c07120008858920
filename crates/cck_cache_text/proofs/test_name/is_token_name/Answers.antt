use Rattle.std.proofs.Common.{◌≡◌, false, rules, tests}
use Rattle.std.proofs.lemmas.Iterator.{YieldsList-from_slice}
use Rattle.std.proofs.lemmas.Iterator.Search.{all_from_yields_List}
use Rattle.cck_cache_text.specs.TestName.{has_low_word, is_token_byte}
use Rattle.cck_cache_text.proofs.test_name.is_token_name.Goals as goal

pub returns-then-not-has_low_word : goal.returns-then-not-has_low_word
returns-then-not-has_low_word c =
    let name = c.args.name.now in
    let none : has_low_word name ≡ false = search (rules, tests) in
    rw none (all_from_yields_List is_token_byte _ _ c.all.result c.all.ensures.ran (YieldsList-from_slice name cc) (λ x b q k. search (rules, tests)))
