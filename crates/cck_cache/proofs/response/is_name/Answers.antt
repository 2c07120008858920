use Rattle.std.proofs.Common.{rules, tests}
use Rattle.std.proofs.lemmas.Iterator.{YieldsList-from_slice}
use Rattle.std.proofs.lemmas.Iterator.Search.{all_from_yields_List}
use Rattle.cck_cache.specs.Response.{is_name_byte}
use Rattle.cck_cache.proofs.response.is_name.Goals as goal

pub returns : goal.returns
returns c =
    all_from_yields_List is_name_byte _ _ c.all.result c.all.ensures.ran (YieldsList-from_slice c.args.front.now cc) (λ x b q k. search (rules, tests))
